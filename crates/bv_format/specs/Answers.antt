-- What `format` answers: each refusal exactly where it comes.
use Rattle.std.specs.Prelude.{◌≡◌, ◌<◌, ◌≤◌, ◌↔◌, ℕ, Result, Ok, Err, IsOk}
use Rattle.spec_faults.specs.Faults.{Rose}
use Rattle.spec_record.specs.declared.geometry.Geometry.{Geometry}
use Rattle.spec_record.specs.declared.field_name.FieldName.{FieldName}
use Rattle.spec_record.specs.Geometry.{total_blocks}
use Rattle.bv_layout.specs.Counts.{counts_or_fault}
use Rattle.bv_format.specs.declared.fault.FormatFault.{FormatFault}
use Rattle.bv_format.specs.declared.fault.FormatFault.TheVariants.{Counts, ShortDevice, DeviceFault}

-- a count is named exactly where it is the first that is out of its limits
abbrev pub AnswersCounts : Geometry → Result (Unit {0}) FormatFault → Type 0
AnswersCounts g result =
    (field : FieldName) (value : ℕ)
    → (result ≡ Err (Counts field value))
    ↔ (counts_or_fault g ≡ Err (record { field = field; value = value }))

-- the counts are lawful, and a device of `has` blocks has fewer than are `wanted`
pub record IsShort (g : Geometry) (blocks wanted has : ℕ) : Type 0 where
  pub counts : counts_or_fault g ≡ Ok tt
  pub few : blocks < total_blocks g
  pub wanted_is : wanted ≡ total_blocks g
  pub has_is : has ≡ blocks

-- the device is too short exactly where it has fewer blocks than these lawful counts need
abbrev pub AnswersShort : Geometry → ℕ → Result (Unit {0}) FormatFault → Type 0
AnswersShort g blocks result =
    (wanted has : ℕ) → (result ≡ Err (ShortDevice wanted has)) ↔ IsShort g blocks wanted has

-- lawful counts, a device that is large enough and no failed call: nothing else is refused
abbrev pub IsComplete : Geometry → ℕ → Result (Unit {0}) FormatFault → ℕ → ℕ → Type 0
IsComplete g blocks result before now =
    counts_or_fault g ≡ Ok tt → total_blocks g ≤ blocks → ¬ Rose before now → IsOk result

-- the answer came before any write
abbrev pub IsRefusal : Result (Unit {0}) FormatFault → Type 0
IsRefusal (Ok v) = ⊥
IsRefusal (Err (Counts field value)) = Unit {0}
IsRefusal (Err (ShortDevice wanted has)) = Unit {0}
IsRefusal (Err (DeviceFault fault)) = ⊥

-- the count of faults rose exactly where a call failed, and the answer has it as it is then
abbrev pub CountsFault : Result (Unit {0}) FormatFault → ℕ → ℕ → Type 0
CountsFault (Ok v) before now = now ≡ before
CountsFault (Err (Counts field value)) before now = now ≡ before
CountsFault (Err (ShortDevice wanted has)) before now = now ≡ before
CountsFault (Err (DeviceFault fault)) before now =
    Rose before now × (before ≤ now) × (fault ≡ now)
