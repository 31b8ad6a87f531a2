-- What the puts of an add have written, by the device's events.
use Rattle.std.proofs.Common.{◌≡◌, ◌<◌, ◌+◌, ℕ, suc, true, List, [], ◌∷◌, ◌++◌, length, length-append, map, take, Option, None, Some, refl, sym, ap, ◌∙◌, subst, arith}
use Rattle.std.specs.Prelude.{IfSome, IsSomeAnd, slice_index, slice_index_or}
use Rattle.std.proofs.lemmas.List.{map-append, take_more}
use Rattle.spec_disk.specs.declared.event.Event.{Event}
use Rattle.spec_disk.specs.declared.event.Event.TheVariants as device
use Rattle.spec_crash.specs.Timing.{IsOkWrite, IsPut, event_at}
use Rattle.spec_record.specs.Geometry.{block_at}
use Rattle.spec_core.specs.declared.act.Act.{Act}
use Rattle.spec_core.specs.declared.act.Act.TheVariants as acts
use Rattle.spec_core.specs.declared.event.CoreEvent.{CoreEvent}
use Rattle.spec_core.specs.declared.reply.Reply.{Reply}
use Rattle.spec_core.specs.declared.reply.Reply.TheVariants as replies
use Rattle.spec_core.specs.declared.who.Who.{Who}
use Rattle.spec_served.specs.Adds.{puts_after, puts_from, puts_of}
use Rattle.spec_tree.specs.declared.Digest.{Digest}
use Rattle.bv_device.specs.Told.{Disk, disk_with}
use Rattle.bv_store.specs.Stored.{Grows}
use Rattle.bv_volume.proofs.Sessions.{event_last, event_more, put_writes_own}
use Rattle.bv_volume.specs.Adding.{Writes}
use Rattle.bv_volume.specs.Events.{Happens, event_of}
use Rattle.bv_volume.specs.Seen.{Seen}
use Rattle.bv_volume.specs.Sessions.{PutsAreWrites, blocks_written, bytes_of}
use Rattle.bv_volume.specs.declared.tokens.Admitted.{Admitted}
use Rattle.bv_adder.specs.Steps.{own}
use Rattle.bv_adder.proofs.EventLemmas.{own_grows}

-- ---- what is told of a disk

none_told : (P : Disk → Type 0) (o : Option Disk) → o ≡ None → IfSome o P
none_told P o is = subst (λ (x : Option Disk). IfSome x P) (sym is) tt

some_told : (P : Disk → Type 0) (o : Option Disk) (d : Disk) → o ≡ Some d → P d → IfSome o P
some_told P o d is k = subst (λ (x : Option Disk). IfSome x P) (sym is) k

told_some : (P : Disk → Type 0) (o : Option Disk) (d : Disk) → o ≡ Some d → IfSome o P → P d
told_some P o d is k = subst (λ (x : Option Disk). IfSome x P) is k

-- ---- one event of the session more

puts_more : (puts : List ℕ) (es : List CoreEvent) (e : CoreEvent) → puts_from puts (es ++ e ∷ []) ≡ puts_after (puts_from puts es) e.act e.reply e.calls
puts_more puts [] e = refl
puts_more puts (f ∷ es) e = puts_more (puts_after puts f.act f.reply f.calls) es e

module _ (f g : ℕ → List ℕ) where
  step_same : (puts : List ℕ) → map f puts ≡ map g puts → (act : Act) (reply : Reply) (calls : ℕ) → (IsPut act × (reply ≡ replies.Written) → f calls ≡ g calls) → map f (puts_after puts act reply calls) ≡ map g (puts_after puts act reply calls)
  step_same puts is (acts.Admit r) reply calls one = refl
  step_same puts is (acts.Put i) replies.Written calls one =
      map-append f puts (calls ∷ []) ∙ (λ j. is j ++ one (tt, refl) j ∷ []) ∙ sym (map-append g puts (calls ∷ []))
  step_same puts is act reply calls one = is

-- ---- the device's events of what was put stay where they are

module _ (trace more : List Event) where
  abbrev before : ℕ → List ℕ
  before c = bytes_of (event_at trace c)

  abbrev now : ℕ → List ℕ
  now c = bytes_of (event_at (trace ++ more) c)

  stays : (c : ℕ) (o : Option Event) → event_at trace c ≡ o → IsSomeAnd o IsOkWrite → now c ≡ before c
  stays c None is write = absurd write
  stays c (Some x) is write = ap bytes_of (event_more trace more c x is ∙ sym is)

  all_stay : (es : List CoreEvent) (puts : List ℕ) → map now puts ≡ map before puts → PutsAreWrites trace es → map now (puts_from puts es) ≡ map before (puts_from puts es)
  all_stay [] puts is write = is
  all_stay (e ∷ es) puts is write =
      all_stay es (puts_after puts e.act e.reply e.calls)
      (step_same now before puts is e.act e.reply e.calls (λ w. stays e.calls (event_at trace e.calls) refl (write.0 w)))
      write.1

  written_stays : (es : List CoreEvent) → PutsAreWrites trace es → blocks_written (trace ++ more) es ≡ blocks_written trace es
  written_stays es write = all_stay es [] refl write

-- ---- a put

-- one write more, which is the device's last event and so stands at the put's calls
one_written : (trace : List Event) (es : List CoreEvent) (who : Who) (k calls at : ℕ) (bytes : List ℕ) → PutsAreWrites trace es → length (trace ++ device.Write at bytes true ∷ []) ≡ calls
    → blocks_written (trace ++ device.Write at bytes true ∷ []) (es ++ event_of who (acts.Put k) replies.Written calls ∷ []) ≡ blocks_written trace es ++ bytes ∷ []
one_written trace es who k calls at bytes write counted =
    let more = device.Write at bytes true ∷ [] in
    let last : suc (length trace) ≡ calls = omega (arith, counted, length-append trace more) in
    let here : event_at (trace ++ more) calls ≡ Some (device.Write at bytes true) = subst (λ (n : ℕ). event_at (trace ++ more) n ≡ Some (device.Write at bytes true)) last (event_last trace (device.Write at bytes true)) in
    ap (λ (cs : List ℕ). map (now trace more) cs) (puts_more [] es (event_of who (acts.Put k) replies.Written calls))
    ∙ map-append (now trace more) (puts_of es) (calls ∷ [])
    ∙ (λ j. written_stays trace more es write j ++ ap bytes_of here j ∷ [])

module _ (v w : Seen) (who : Who) (k : ℕ) (h : Happens v w who (acts.Put k) replies.Written) (bytes : List ℕ) (blocks : List (List ℕ)) (counted : IfSome w.store.told (λ d. length d.trace ≡ w.store.calls)) (at : ℕ) where
  grown : (o : Option Disk) → Grows o w.store.told (λ d more. more ≡ device.Write at bytes true ∷ []) → IfSome o (λ d. PutsAreWrites d.trace v.history.events) → IfSome o (λ d. blocks_written d.trace (own who.session v) ≡ blocks)
      → IfSome w.store.told (λ d. blocks_written d.trace (own who.session w) ≡ blocks ++ bytes ∷ [])
  grown None grows write was = none_told (λ d. blocks_written d.trace (own who.session w) ≡ blocks ++ bytes ∷ []) w.store.told grows
  grown (Some d) grows write was =
      let more = device.Write at bytes true ∷ [] in
      let is : w.store.told ≡ Some (disk_with d more) = grows.1 ∙ ap (λ (es : List Event). Some (disk_with d es)) grows.2 in
      let long : length (d.trace ++ more) ≡ w.store.calls = told_some (λ x. length x.trace ≡ w.store.calls) w.store.told (disk_with d more) is counted in
      some_told (λ x. blocks_written x.trace (own who.session w) ≡ blocks ++ bytes ∷ []) w.store.told (disk_with d more) is
      (ap (λ (es : List CoreEvent). blocks_written (d.trace ++ more) es) (own_grows v w who (acts.Put k) replies.Written h)
      ∙ one_written d.trace (own who.session v) who k w.store.calls at bytes (put_writes_own d.trace who.session v.history.events write) long
      ∙ ap (λ (bs : List (List ℕ)). bs ++ bytes ∷ []) was)

-- what was put, and one block more
pub put_wrote : (v w : Seen) (who : Who) (k : ℕ) (a : Admitted) (bytes : List ℕ) (blocks : List (List ℕ)) → Happens v w who (acts.Put k) replies.Written → Writes v w a bytes
    → IfSome v.store.told (λ d. PutsAreWrites d.trace v.history.events) → IfSome w.store.told (λ d. length d.trace ≡ w.store.calls)
    → k < length blocks → bytes ≡ slice_index_or blocks k []
    → IfSome v.store.told (λ d. blocks_written d.trace (own who.session v) ≡ take k blocks) → IfSome w.store.told (λ d. blocks_written d.trace (own who.session w) ≡ take (k + 1) blocks)
put_wrote v w who k a bytes blocks h writes write counted low is was =
    subst (λ (bs : List (List ℕ)). IfSome w.store.told (λ d. blocks_written d.trace (own who.session w) ≡ bs))
    (ap (λ (b : List ℕ). take k blocks ++ b ∷ []) is ∙ sym (take_more blocks k [] low))
    (grown v w who k h bytes (take k blocks) counted (block_at v.store.geometry (slice_index writes.blocks.items a.put)) v.store.told writes.next write was)

-- ---- an admit

every_told : (o : Option Disk) (P : Disk → Type 0) → ((d : Disk) → P d) → IfSome o P
every_told None P k = tt
every_told (Some d) P k = k d

-- an add that was just admitted has written nothing
pub none_written : (v w : Seen) (who : Who) (r : Digest) → Happens v w who (acts.Admit r) replies.Admitted → IfSome w.store.told (λ d. blocks_written d.trace (own who.session w) ≡ [])
none_written v w who r h =
    every_told w.store.told (λ d. blocks_written d.trace (own who.session w) ≡ [])
    (λ d. ap (λ (es : List CoreEvent). blocks_written d.trace es) (own_grows v w who (acts.Admit r) replies.Admitted h)
    ∙ ap (λ (cs : List ℕ). map (λ c. bytes_of (event_at d.trace c)) cs) (puts_more [] (own who.session v) (event_of who (acts.Admit r) replies.Admitted w.store.calls)))
