use Rattle.std.proofs.Common.{◌≡◌, ◌∙◌, ap, sym, subst, length, List, ℕ}
use Rattle.spec_disk.specs.Images.{IsImage}
use Rattle.spec_disk.proofs.ProgramLemmas.{since-is}
use Rattle.bv_device.specs.Stop.{IsChosen}
use Rattle.bv_device.proofs.StopLemmas.{IsChosen-mixed, IsImage-mixed, whole_slice}
use Rattle.bv_device.proofs.stop.image_of.Goals as goal

pub returns-clause-chosen : goal.returns-clause-chosen
returns-clause-chosen c =
    let same : length c.mix_all.new.image ≡ length c.in_ok-image.image.items = c.mix_all.auto.image ∙ ap (λ (d : List (List ℕ)). length d) c.deref_mut.ensures.value in
    let all : c.in_ok-image.image.len ≡ length c.in_ok-image.image.items = sym c.deref_mut.ensures.len ∙ ap (λ (d : List (List ℕ)). length d) c.deref_mut.ensures.value in
    subst (λ d. IsChosen c.args.base.now c.args.events.now c.args.choice.now d) (sym (whole_slice _ _ _ same all))
    (IsChosen-mixed c.args.base.now c.deref_mut.result.now c.mix_all.new.image c.args.events.now _ c.args.choice.now (c.deref_mut.ensures.value ∙ c.in_ok-image.ensures)
    (since-is c.args.events.now c.synced_len.result c.synced_len.ensures.exact) c.mix_all.auto.image c.mix_all.ensures.chosen)

pub returns-clause-image : goal.returns-clause-image
returns-clause-image c =
    let same : length c.mix_all.new.image ≡ length c.in_ok-image.image.items = c.mix_all.auto.image ∙ ap (λ (d : List (List ℕ)). length d) c.deref_mut.ensures.value in
    let all : c.in_ok-image.image.len ≡ length c.in_ok-image.image.items = sym c.deref_mut.ensures.len ∙ ap (λ (d : List (List ℕ)). length d) c.deref_mut.ensures.value in
    subst (λ d. IsImage c.args.base.now c.args.events.now d) (sym (whole_slice _ _ _ same all))
    (IsImage-mixed c.args.base.now c.deref_mut.result.now c.mix_all.new.image c.args.events.now _ (c.deref_mut.ensures.value ∙ c.in_ok-image.ensures)
    (since-is c.args.events.now c.synced_len.result c.synced_len.ensures.exact) c.mix_all.auto.image c.mix_all.ensures.left)
