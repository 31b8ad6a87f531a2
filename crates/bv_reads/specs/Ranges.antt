-- Ranges of a blob that a reader reads, beside the bytes that its name stands for.
use Rattle.std.specs.Prelude.{◌≡◌, ℕ, List, Some}
use Rattle.spec_window.specs.Page.{Page, honest_page}
use Rattle.spec_window.specs.Exhibits.{Exhibits}
use Rattle.bv_pager.specs.Reading.{Reading, known_at}
use Rattle.bv_pager.specs.Range.{IsInRange}

-- a page that the reader knows of this range, and the honest one of these bytes, show a collision of
-- SHA-256 or an input that it takes to zeros
pub record ShowsIn (r : Reading) (v : List ℕ) (from to : ℕ) : Type 0 where
  pub window : ℕ
  pub there : IsInRange from to window
  pub page : Page
  pub known : known_at r window ≡ Some page
  pub shows : Exhibits page (honest_page v window)
