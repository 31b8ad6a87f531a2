-- An admit is refused only where the most nodes of all blobs and adds are more than there are.
use Rattle.std.proofs.Common.{◌≡◌, ℕ, ◌+◌, ◌<◌, inl, inr, Option, Some, None, refl, ap, arith}
use Rattle.std.specs.List.{sum_by}
use Rattle.std.specs.BTreeMap.{is_at}
use Rattle.std.specs.Map.{values_of}
use Rattle.std.specs.Option.{unwrap_or, option_map}
use Rattle.std.proofs.lemmas.Map.Entries.{sum_by-remove_entry}
use Rattle.spec_tree.specs.declared.Digest.{Digest}
use Rattle.spec_tree.specs.Order.{digest_cmp}
use Rattle.spec_core.proofs.Numbers.{numbers_are_apart}
use Rattle.spec_core.specs.Choice.{if_added, unless_stopped, admit_choice}
use Rattle.spec_core.specs.History.{setting_of, last_state, worst_sum}
use Rattle.spec_core.specs.Laws.{NoNodesIsPastWorst, WorstSumIsPassed}
use Rattle.spec_core.specs.Log.{without}
use Rattle.spec_core.specs.Room.{worst_nodes, worst_sum_in}
use Rattle.spec_core.specs.State.{State, find}
use Rattle.spec_core.specs.Step.{Chosen}
use Rattle.spec_core.specs.declared.reply.Reply.TheVariants.{NoNodes}
use Rattle.spec_core.specs.declared.setting.Setting.{Setting}

module _ (g : Setting) (s : State) (r : Digest) where
  -- the adds but one, and that one
  without_one : (n : ℕ) → find s.adds r ≡ Some n → sum_by (worst_nodes g.version) (values_of (without s.adds r)) + worst_nodes g.version n ≡ sum_by (worst_nodes g.version) (values_of s.adds)
  without_one n e = omega (arith, sum_by-remove_entry (worst_nodes g.version) (is_at (digest_cmp r)) s.adds, ap (λ (o : Option ℕ). unwrap_or (option_map (worst_nodes g.version) o) 0) e)

  past_worst : (need free : ℕ) (added stopped : Option ℕ) → find s.adds r ≡ added → Chosen (if_added added (λ n. unless_stopped stopped (admit_choice g s r n))) (NoNodes need free) → g.nodes < worst_sum_in g s
  past_worst need free None stopped e c = absurd c
  past_worst need free (Some n) (Some f) e c = cc
  past_worst need free (Some n) None e (inl c) = cc
  past_worst need free (Some n) None e (inr (most, least, same, over, within, from)) = omega (arith, without_one n e, over, within, from)

pub no_nodes_is_past_worst : NoNodesIsPastWorst
no_nodes_is_past_worst g s who r need free = past_worst g s r need free (find s.adds r) s.stopped refl

pub worst_sum_is_passed : WorstSumIsPassed
worst_sum_is_passed h next who r need free c =
    let same : worst_sum_in (setting_of h) (last_state h next) ≡ worst_sum h = ap (worst_sum_in (setting_of h)) (numbers_are_apart h next) in
    omega (arith, same, no_nodes_is_past_worst (setting_of h) (last_state h next) who r need free c)
