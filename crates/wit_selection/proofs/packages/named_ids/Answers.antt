use Rattle.std.proofs.Common.{◌≡◌, ℕ, Bool, [], ◌∷◌, ◌++◌, Some, subst, ap, ◌∙◌}
use Rattle.std.specs.Prelude.{slice_get, if◌then◌else◌}
use Rattle.wit_productions.specs.NameView as view
use Rattle.wit_selection.specs.Selection as spec
use Rattle.wit_selection.proofs.Choosing.{one_more}
use Rattle.wit_selection.proofs.packages.named_ids.Goals as goal

pub loop-index-preserved : goal.loop-index-preserved
loop-index-preserved c =
    one_more (spec.is_named (view.package_name c.args.path.now)) c.loop-index.ids.items c.add_if.new.ids.items c.args.packages.now c.loop-index.index c.get.result.now
    (subst (λ (i : ℕ). slice_get c.args.packages.now i ≡ Some c.get.result.now) c.from_index-id.ensures c.get.ensures)
    (c.in_ok-add_if.ensures ∙ ap (λ (b : Bool). c.loop-index.ids.items ++ (if b then c.from_index-id.result ∷ [] else [])) c.is_named-passes.ensures
    ∙ ap (λ (i : ℕ). c.loop-index.ids.items ++ (if spec.is_named (view.package_name c.args.path.now) c.get.result.now.name then i ∷ [] else [])) c.from_index-id.ensures)
    ∙ c.loop-index.invariant
