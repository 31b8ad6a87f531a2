-- The ends of lines.
use Rattle.std.proofs.Common.{◌≡◌, ℕ, List, [], ◌∷◌, ◌≤◌, length, refl, sym, ap, ◌∙◌, subst, inl, arith}
use Rattle.std.specs.Prelude.{Option, None, Ok, Err}
use Rattle.std.specs.declared.alloc.AllocError.{AllocError}
use Rattle.spec_session.specs.declared.result.LineResult.{LineResult}
use Rattle.spec_served.specs.Answers.{Answers, AnswersAdd}
use Rattle.spec_core.specs.declared.act.Act.{Act}
use Rattle.spec_core.specs.declared.act.Act.TheVariants.{Begin, Open, Read, Scan, Close, Unlink, Sync, List as ListAll}
use Rattle.spec_core.specs.declared.reply.Reply.{Reply}
use Rattle.spec_core.specs.declared.reply.Reply.TheVariants.{NotFound, BadSlot, Closed}
use Rattle.spec_core.specs.declared.event.CoreEvent.{CoreEvent}
use Rattle.spec_core.specs.declared.who.Who.{Who}
use Rattle.spec_tree.specs.declared.Digest.{Digest}
use Rattle.spec_session.specs.Own.{add_of, OwnAdd, add_after}
use Rattle.spec_session.specs.Lines.{Move, CutMoves}
use Rattle.std.proofs.lemmas.Grind.{div_ceil_times}
use Rattle.std.proofs.lemmas.List.{length-replicate}
use Rattle.std.proofs.lemmas.List.FromFn.{length-map-range_with_len}
use Rattle.spec_tree.specs.Tree.{root_of, need_of}
use Rattle.spec_tree.proofs.SizesLemmas.{need-small}
use Rattle.spec_script.specs.declared.command.Command.{Command}
use Rattle.spec_script.specs.declared.command.Command.TheVariants as commands
use Rattle.spec_script.specs.declared.name.Name.{Name}
use Rattle.spec_script.specs.declared.word.Word.{Word}
use Rattle.spec_script.specs.declared.word.Word.TheVariants as words
use Rattle.spec_script.specs.Limits.{word_len}
use Rattle.spec_script.specs.Tasks.{task_of, word_bytes, name_root, seq_byte}
use Rattle.spec_session.specs.Conform.{own_act}
use Rattle.bv_writer.specs.Plans.{Plan, IsPlanOf}
use Rattle.bv_session.specs.Adds.{AddEnds}
use Rattle.bv_session.specs.Sessions.{LineAnswer, Ends, DoesOne}
use Rattle.bv_session.proofs.Moves.{since_none, since_one, add_gains}

-- an empty beginning of any line
pub cut_none : (version : ℕ) (old : List CoreEvent) (act : Act) → CutMoves version old act []
cut_none version old (Begin r n) = inl refl
cut_none version old (Open slot r) = ((Open slot r, NotFound) ∷ [], inl (NotFound, (λ n e. absurd (cc)), refl))
cut_none version old (Read slot off len) = ((Read slot off len, BadSlot) ∷ [], inl (BadSlot, (λ e. absurd (cc)), refl))
cut_none version old (Scan slot) = ((Scan slot, BadSlot) ∷ [], inl (BadSlot, (λ e. absurd (cc)), refl))
cut_none version old act = ((act, Closed) ∷ [], (Closed, refl))

-- nothing was done, for want of memory
pub ends_none : (e : AllocError) (version : ℕ) (who : Who) (act : Act) (old now : List CoreEvent) → now ≡ old → Ends version who act (Err e) old now
ends_none e version who act old now same = record { moves = []; since = since_none who old now same; allowed = cut_none version old act }

-- what answers an add's moves answers its line
answers_begin : (own : List CoreEvent) (root : Digest) (n : ℕ) (ms : List Move) (r : LineResult) → AnswersAdd ms r → Answers own (Begin root n) ms r
answers_begin own root n [] r h = h
answers_begin own root n (m ∷ ms) r h = h

-- an add
pub add_ends : (a : Plan) (who : Who) (answer : LineAnswer) (old now : List CoreEvent) → AddEnds a who [] answer old now → Ends a.version who (Begin a.root a.size) answer old now
add_ends a who (Ok r) old now e = record { moves = e.moves; since = e.since; allowed = (e.allowed.0, answers_begin old a.root a.size e.moves r e.allowed.1) }
add_ends a who (Err x) old now e = record { moves = e.moves; since = e.since; allowed = e.allowed }

module _ (version : ℕ) (who : Who) (old now : List CoreEvent) where
  pub sync_ends : (answer : LineAnswer) → DoesOne who Sync answer old now → Ends version who Sync answer old now
  sync_ends (Ok r) d = record { moves = (Sync, d.0) ∷ []; since = since_one who Sync d.0 old now d.1; allowed = ((d.0, refl), d.2) }
  sync_ends (Err e) d = ends_none e version who Sync old now d

  pub list_ends : (answer : LineAnswer) → DoesOne who ListAll answer old now → Ends version who ListAll answer old now
  list_ends (Ok r) d = record { moves = (ListAll, d.0) ∷ []; since = since_one who ListAll d.0 old now d.1; allowed = ((d.0, refl), d.2) }
  list_ends (Err e) d = ends_none e version who ListAll old now d

  pub close_ends : (slot : ℕ) (answer : LineAnswer) → DoesOne who (Close slot) answer old now → Ends version who (Close slot) answer old now
  close_ends slot (Ok r) d = record { moves = (Close slot, d.0) ∷ []; since = since_one who (Close slot) d.0 old now d.1; allowed = ((d.0, refl), d.2) }
  close_ends slot (Err e) d = ends_none e version who (Close slot) old now d

  pub unlink_ends : (r : Digest) (answer : LineAnswer) → DoesOne who (Unlink r) answer old now → Ends version who (Unlink r) answer old now
  unlink_ends root (Ok r) d = record { moves = (Unlink root, d.0) ∷ []; since = since_one who (Unlink root) d.0 old now d.1; allowed = ((d.0, refl), d.2) }
  unlink_ends root (Err e) d = ends_none e version who (Unlink root) old now d

  pub unlinks_named : (r named : Digest) (answer : LineAnswer) → r ≡ named → DoesOne who (Unlink r) answer old now → Ends version who (Unlink named) answer old now
  unlinks_named r named answer is d = subst (λ (x : Digest). Ends version who (Unlink x) answer old now) is (unlink_ends r answer d)

  -- the same of an open
  pub opens_named : (slot : ℕ) (r named : Digest) (answer : LineAnswer) → r ≡ named → Ends version who (Open slot r) answer old now → Ends version who (Open slot named) answer old now
  opens_named slot r named answer is = subst (λ (x : Digest). Ends version who (Open slot x) answer old now) is

  -- one event of these leaves the session's add as it is
  pub idle_stays : (act : Act) (answer : LineAnswer) → ((q : Reply) → add_after None act q ≡ None) → DoesOne who act answer old now → add_of old ≡ None → add_of now ≡ None
  idle_stays act (Ok r) same d idle = add_gains who act d.0 old now d.1 ∙ ap (λ (x : Option OwnAdd). add_after x act d.0) idle ∙ same d.0
  idle_stays act (Err e) same d idle = ap add_of d ∙ idle

-- an add of the bytes that a word spells
pub plan_ends : (a : Plan) (version : ℕ) (bytes spelled : List ℕ) (who : Who) (answer : LineAnswer) (old now : List CoreEvent) → IsPlanOf a version bytes → bytes ≡ spelled
    → AddEnds a who [] answer old now → Ends version who (Begin (root_of spelled) (length spelled)) answer old now
plan_ends a version bytes spelled who answer old now p is e =
    subst (λ (x : ℕ × Digest × ℕ). Ends x.0 who (Begin x.1 x.2) answer old now)
    (λ i. (p.of_version i, (p.of_root ∙ ap root_of is) i, (p.of_size ∙ ap length is) i)) (add_ends a who answer old now e)

-- a word of a script is a small blob
pub need_fits : (version size : ℕ) → size ≤ 4194304 → need_of version size ≤ 65535
need_fits version size low =
    let need = need-small version size in let blocks = (div_ceil_times size 8192 (omega arith)).1 in omega arith

-- ---- commands

-- the length that a word says is that of its bytes
pub word_len_is : (word : Word) → length (word_bytes word) ≡ word_len word
unfolding word_bytes
word_len_is (words.Hex bytes) = refl
word_len_is (words.Fill byte len) = length-replicate len byte
word_len_is (words.Seq base len) = length-map-range_with_len (seq_byte base) 0 len

-- the own act of each command
pub own_add : (word : Word) → own_act (task_of (commands.Add word)) ≡ Begin (root_of (word_bytes word)) (word_len word)
unfolding task_of
own_add word = refl

pub own_open : (slot : ℕ) (name : Name) → own_act (task_of (commands.Open slot name)) ≡ Open slot (name_root name)
unfolding task_of
own_open slot name = refl

pub own_read : (slot off len : ℕ) → own_act (task_of (commands.Read slot off len)) ≡ Read slot off len
unfolding task_of
own_read slot off len = refl

pub own_scan : (slot : ℕ) → own_act (task_of (commands.Scan slot)) ≡ Scan slot
unfolding task_of
own_scan slot = refl

pub own_close : (slot : ℕ) → own_act (task_of (commands.Close slot)) ≡ Close slot
unfolding task_of
own_close slot = refl

pub own_unlink : (name : Name) → own_act (task_of (commands.Unlink name)) ≡ Unlink (name_root name)
unfolding task_of
own_unlink name = refl

pub own_sync : own_act (task_of commands.Sync) ≡ Sync
unfolding task_of
own_sync = refl

pub own_list : own_act (task_of commands.List) ≡ ListAll
unfolding task_of
own_list = refl

-- the line of a command that is this one, whose own act is this
pub by_command : (version : ℕ) (who : Who) (answer : LineAnswer) (old now : List CoreEvent) (command this : Command) (act : Act) → command ≡ this → own_act (task_of this) ≡ act → Ends version who act answer old now → Ends version who (own_act (task_of command)) answer old now
by_command version who answer old now command this act is own =
    subst (λ (x : Act). Ends version who x answer old now) (sym (ap (λ (x : Command). own_act (task_of x)) is ∙ own))

-- an add of the bytes that a data word stands for
pub word_ends : (a : Plan) (version : ℕ) (bytes : List ℕ) (word : Word) (who : Who) (answer : LineAnswer) (old now : List CoreEvent) → IsPlanOf a version bytes → bytes ≡ word_bytes word
    → AddEnds a who [] answer old now → Ends version who (own_act (task_of (commands.Add word))) answer old now
word_ends a version bytes word who answer old now p is e =
    subst (λ (x : Act). Ends version who x answer old now)
    (ap (λ (n : ℕ). Begin (root_of (word_bytes word)) n) (word_len_is word) ∙ sym (own_add word))
    (plan_ends a version bytes (word_bytes word) who answer old now p is e)
