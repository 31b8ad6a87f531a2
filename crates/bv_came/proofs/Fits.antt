-- Which lines have which results.
use Rattle.std.proofs.Common.{◌≡◌, Option, None, Some, List, refl, subst}
use Rattle.spec_core.specs.declared.act.Act.{Act}
use Rattle.spec_core.specs.declared.act.Act.TheVariants.{Open, Read, Scan}
use Rattle.spec_core.specs.declared.event.CoreEvent.{CoreEvent}
use Rattle.spec_core.specs.declared.reply.Reply.{Reply}
use Rattle.spec_core.specs.declared.reply.Reply.TheVariants.{Opened, Reading}
use Rattle.spec_served.specs.Answers.{AnswersBy, AnswersScan, IfHeld}
use Rattle.spec_served.specs.Device.{Range, blob_by, range_by}
use Rattle.spec_session.specs.Lines.{Move, read_windows}
use Rattle.spec_session.specs.Own.{Named, slot_holds}
use Rattle.spec_session.specs.declared.result.LineResult.{LineResult}
use Rattle.spec_session.specs.declared.result.LineResult.TheVariants.{Bytes}
use Rattle.bv_came.proofs.Quiet.{IsLooking}

-- a line that is about a blob looks at it
pub looks_by : (own : List CoreEvent) (a : Act) (q : Reply) (blob : Named) → blob_by own a q ≡ Some blob → IsLooking a
looks_by own (Open slot root) q blob is = tt
looks_by own (Read slot off len) q blob is = tt
looks_by own (Scan slot) q blob is = tt
looks_by own a q blob is = absurd (cc)

-- the result is bytes
abbrev pub AreBytes : LineResult → Type 0
AreBytes (Bytes v) = Unit {0}
AreBytes r = ⊥

-- no scan answers bytes
no_scan : (o : Option Named) (r : LineResult) → AreBytes r → ¬ (IfHeld o (λ blob. AnswersScan blob r))
no_scan None r bytes k = k
no_scan (Some blob) (Bytes v) bytes k = k
no_scan (Some blob) r bytes k = bytes

-- a line that answers bytes is a read
pub range_is_read : (own : List CoreEvent) (ms : List Move) (blob : Named) (range : Range) (a : Act) (q : Reply) (r : LineResult) → AreBytes r → blob_by own a q ≡ Some blob → range_by blob.1 a ≡ Some range
    → AnswersBy own a q ms r → range.windows ≡ read_windows blob.1 range.off range.len
range_is_read own ms blob range (Open slot root) (Opened n) (Bytes v) bytes is ranged k = absurd k.0
range_is_read own ms blob range (Open slot root) (Opened n) r bytes is ranged k = absurd bytes
range_is_read own ms blob range (Open slot root) q r bytes is ranged k = absurd (cc)
range_is_read own ms blob range (Read slot off len) q r bytes is ranged k =
    let same : record { windows = read_windows blob.1 off len; off = off; len = len } ≡ range = cc in
    subst (λ (x : Range). x.windows ≡ read_windows blob.1 x.off x.len) same refl
range_is_read own ms blob range (Scan slot) Reading r bytes is ranged k = absurd (no_scan (slot_holds slot own) r bytes k.0)
range_is_read own ms blob range (Scan slot) q r bytes is ranged k = absurd (cc)
range_is_read own ms blob range a q r bytes is ranged k = absurd (cc)
