-- The metadata blocks of an image with its journal replayed (this project's profile).
use Rattle.std.specs.Prelude.{ℕ, List, [], ◌∷◌, map, ◌==◌, if◌then◌else◌, is_some, unwrap_or, Option, Some, None}
use Rattle.std.specs.List.{range_with_len, flat_map}
use Rattle.spec_disk.specs.Disk.{block}
use Rattle.spec_record.specs.declared.geometry.Geometry.{Geometry}
use Rattle.spec_record.specs.Geometry.{meta_blocks}
use Rattle.spec_record.specs.Entry.{Entry}
use Rattle.spec_image.specs.Journal.{journal_of}
use Rattle.spec_image.specs.Replay.{replay}

-- the payloads of these entries in order, each with the metadata block that it names
abbrev pub payloads_of : List Entry → List (ℕ × List ℕ)
payloads_of es = flat_map (λ e. e.targets) es

-- the last payload that names block t
abbrev pub last_naming : ℕ → List (ℕ × List ℕ) → Option (List ℕ)
last_naming t [] = None
last_naming t (p ∷ ps) =
    if is_some (last_naming t ps) then last_naming t ps else if p.0 == t then Some p.1 else None

-- After: block t is the last payload of the replay that names t, else the image's block t
unfoldable pub after : Geometry → List (List ℕ) → List (List ℕ)
after g image =
    let payloads = payloads_of (replay (journal_of g image)) in
    map (λ t. unwrap_or (last_naming t payloads) (block image t)) (range_with_len 0 (meta_blocks g))
