use Rattle.std.proofs.Common.{◌++◌, ap, ◌∙◌, codes, List, ℕ, length, count_by, map, sum}
use Rattle.std.specs.Map.{values_of}
use Rattle.spec_tree.specs.declared.Digest.{Digest}
use Rattle.spec_tree.specs.declared.blob.Blob.{Blob}
use Rattle.spec_script.specs.declared.line.ScriptLine.{ScriptLine}
use Rattle.spec_core.specs.declared.map_change.MapChange.{MapChange}
use Rattle.spec_core.specs.State.{State}
use Rattle.spec_session.specs.Demo.{is_add, is_publish, is_purge, summary_line}
use Rattle.bv_text.proofs.Summaries.{six_lines}
use Rattle.bv_text.proofs.demo.summary.Goals as goal

pub returns : goal.returns
returns c =
    six_lines _ _ _ _ _ _ _ _ _ _ _ _
    (c.in_ok-put_line.ensures ∙ (λ k. c.new-out.ensures.items k ++ summary_line (codes "demo") (c.from.ensures k)))
    (c.in_ok-put_line-2.ensures ∙ ap (λ n. c.put_line.new.out.items ++ summary_line (codes "adds") n) (c.adds_in.ensures ∙ ap (λ (l : List ScriptLine). count_by (λ line. is_add line.command) l) c.lines.ensures.lines))
    (c.in_ok-put_line-3.ensures ∙ ap (λ n. c.put_line-2.new.out.items ++ summary_line (codes "published") n) (c.published_in.ensures ∙ ap (λ (l : List MapChange). count_by is_publish l) (c.changes-changes.ensures ∙ ap (λ (s : State). s.log) c.in_ok-core.ensures)))
    (c.in_ok-put_line-4.ensures ∙ ap (λ n. c.put_line-3.new.out.items ++ summary_line (codes "purged") n) (c.purged_in.ensures ∙ ap (λ (l : List MapChange). count_by is_purge l) (c.changes-changes.ensures ∙ ap (λ (s : State). s.log) c.in_ok-core.ensures)))
    (c.in_ok-put_line-5.ensures ∙ ap (λ n. c.put_line-4.new.out.items ++ summary_line (codes "blobs") n) (c.len.ensures.len ∙ ap (λ (l : List (Digest × Blob)). length l) c.in_ok-blobs.ensures))
    (c.in_ok-put_line-6.ensures ∙ ap (λ n. c.put_line-5.new.out.items ++ summary_line (codes "bytes") n) (c.in_ok-bytes.ensures ∙ ap (λ (l : List (Digest × Blob)). sum (map (λ (b : Blob). b.size) (values_of l))) c.in_ok-blobs.ensures))
