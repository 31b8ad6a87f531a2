-- What a result says of the device, by the pages that it came of.
use Rattle.std.proofs.Common.{◌≡◌, ◌≤◌, ◌<◌, ℕ, ◌+◌, ◌-◌, ◌*◌, ◌==◌, List, [], ◌∷◌, length, map, take, drop, Option, Some, None, refl, ap, sym, ◌∙◌, subst, arith}
use Rattle.std.specs.Prelude.{min, IsSomeAnd, if◌then◌else◌, option_map, option_and_then}
use Rattle.std.specs.List.{concat}
use Rattle.spec_tree.specs.Tree.{data_blocks}
use Rattle.spec_disk.specs.declared.event.Event.{Event}
use Rattle.spec_disk.specs.Disk.{Blocks, block}
use Rattle.spec_record.specs.Geometry.{block_at}
use Rattle.spec_image.specs.Metadata.{Metadata}
use Rattle.spec_image.specs.Stored.{blocks_of, bytes_in, stored}
use Rattle.spec_image.specs.Volume.{blob_in, bytes_of}
use Rattle.spec_window.specs.declared.mismatch.Mismatch.{Mismatch}
use Rattle.spec_core.specs.History.{History}
use Rattle.spec_session.specs.Lines.{Windows, windows_between}
use Rattle.spec_session.specs.declared.result.LineResult.{LineResult}
use Rattle.spec_session.specs.declared.result.LineResult.TheVariants as results
use Rattle.spec_served.specs.Device.{At, IsBytes, SeenAt, now_at, stored_at}
use Rattle.spec_served.specs.Places.{publisher, version_by}
use Rattle.spec_seen.specs.Pages.{AllFit, AreThere, CameOf, CutOut, Failed, HasThere, PagesShow}
use Rattle.spec_seen.proofs.CutLemmas.{between_is, window_cut}

map_map : (f g : ℕ → ℕ) (h : ℕ → List ℕ) (xs : List ℕ) → map (λ x. h (g x)) xs ≡ map h (map g xs)
map_map f g h [] = refl
map_map f g h (x ∷ xs) = ap (λ (l : List (List ℕ)). h (g x) ∷ l) (map_map f g h xs)

-- the first bytes of a blob's data, by its version and its size
abbrev data_of : ℕ → ℕ → List (List ℕ) → List ℕ
data_of version size blocks =
    take size (concat (if version == 2 then take (data_blocks size) blocks else drop (length blocks - data_blocks size) blocks))

module _ (base : Blocks) (told : List Event) (h : History) (at : At) where
  abbrev version_at : ℕ
  version_at = version_by base h at.blob.0 (publisher at.blob.0 None at.before)

  abbrev content : List ℕ
  content = data_of version_at at.blob.1 (stored_at base told h at)

  -- what the image has for the blob
  there_is : HasThere base told h at → bytes_of (now_at base told h at) at.blob.0 ≡ Some content
  there_is t =
      let now : Blocks = now_at base told h at in
      let blocks : stored t.metadata.super.geometry now t.found ≡ stored_at base told h at =
      map_map (λ x. x) (block_at t.metadata.super.geometry) (block now) (blocks_of t.found.extents) ∙ ap (map (block now)) t.blocks in
      let whole : bytes_in t.metadata.super.geometry now t.found ≡ content =
      λ i. data_of (t.version i) (t.size i) (blocks i) in
      ap (option_and_then (λ (m : Metadata). option_map (bytes_in m.super.geometry now) (blob_in m at.blob.0))) t.is
      ∙ ap (option_map (bytes_in t.metadata.super.geometry now)) t.has ∙ ap (λ (l : List ℕ). Some l) whole

  -- the bytes of a read
  bytes_seen : (windows : Windows) (off len : ℕ) (bytes v : List ℕ) → CutOut base told h at windows off len bytes → bytes ≡ v
      → IsSomeAnd (bytes_of (now_at base told h at) at.blob.0) (λ all. v ≡ take (min (off + len) at.blob.1 - min off at.blob.1) (drop (min off at.blob.1) all))
  bytes_seen windows off len bytes v c is =
      let size : ℕ = at.blob.1 in
      let from : ℕ = min off size in
      let to : ℕ = min (off + len) size in
      let each : (w : ℕ) → (windows_between from to).first ≤ w → w < (windows_between from to).past → c.known.bytes w ≡ take 65536 (drop (65536 * w) content) =
      λ w low high. (subst (AreThere base told h at c.known) c.range c.pages) w low high
      ∙ window_cut size w (concat (if version_at == 2 then take (data_blocks size) (stored_at base told h at) else drop (length (stored_at base told h at) - data_blocks size) (stored_at base told h at))) in
      let given : v ≡ take (to - from) (drop from content) = sym is ∙ c.cut ∙ between_is c.known.bytes content from to (omega arith) each in
      subst (λ (o : Option (List ℕ)). IsSomeAnd o (λ all. v ≡ take (to - from) (drop from all))) (sym (there_is c.there)) given

  module _ (windows : Windows) (off len : ℕ) where
    -- no mismatch, and every window verifies
    fit_seen : (r : LineResult) → AllFit base told h at windows → ((m : Mismatch) → ¬ (r ≡ results.Mismatch m))
        → ((v : List ℕ) → IsBytes v r → IsSomeAnd (bytes_of (now_at base told h at) at.blob.0) (λ all. v ≡ take (min (off + len) at.blob.1 - min off at.blob.1) (drop (min off at.blob.1) all)))
        → SeenAt base told h at windows off len r
    fit_seen r fit none bytes = record {
      first = λ m is. absurd (none m is);
      found = λ fault w bad. absurd (bad.bad (fit w bad.within.0 bad.within.1));
      bytes = bytes;
    }

    failed_seen : (m : Mismatch) → Failed base told h at windows m → SeenAt base told h at windows off len (results.Mismatch m)
    failed_seen m f = record {
      first = λ n is. (f.window, f.bad, f.first ∙ ap (λ (x : Mismatch). Some x) (one m n is));
      found = λ fault w bad. (m, refl);
      bytes = λ v is. absurd is;
    } where
      one : (m n : Mismatch) → results.Mismatch m ≡ results.Mismatch n → m ≡ n
      one m n is = cc

    fault_seen : (f : ℕ) → SeenAt base told h at windows off len (results.ReadFault f)
    fault_seen f = record {
      first = λ m is. absurd (cc);
      found = λ fault w bad. absurd (fault f refl);
      bytes = λ v is. absurd is;
    }

    came_seen : (r : LineResult) → CameOf base told h at windows off len r → SeenAt base told h at windows off len r
    came_seen (results.Bytes bytes) c = fit_seen (results.Bytes bytes) c.fit (λ m is. cc) (λ v is. bytes_seen windows off len bytes.items v c is)
    came_seen (results.Mismatch m) c = failed_seen m c
    came_seen (results.ReadFault f) c = fault_seen f
    came_seen r c = fit_seen r c (λ m is. cc) (λ v is. absurd is)

pub pages_show : PagesShow
pages_show base told h at windows off len r c = came_seen base told h at windows off len r c
