use Rattle.std.proofs.Common.{◌≡◌, ◌<◌, List, ℕ, length, rules, sym, ap, ◌∙◌}
use Rattle.wit_syntax.specs.AstView as view
use Rattle.wit_scopes.specs.Paths.{used_target, or_target, file_item_uses}
use Rattle.wit_scopes.specs.View.{known_target}
use Rattle.wit_scopes.proofs.Uses.{uses_more}
use Rattle.wit_scopes.proofs.paths.FileUses.new.Goals as goal

pub loop-gated-preserved : goal.loop-gated-preserved
loop-gated-preserved c =
    let there : c.loop-gated.gated-index < length c.args.items.now = search rules in
    let me = view.package_name c.args.me in
    let known : (n : List ℕ) → known_target c.add_item.new.self n ≡ or_target (known_target c.loop-gated.uses n) (used_target me (file_item_uses (view.file_item c.gated-item.result.item)) n) =
    rw (c.loop-gated.invariant.package_is) at c.in_ok-add_item.ensures.known in
    record {
      package_is = ap view.package_name c.in_ok-add_item.ensures.me ∙ c.loop-gated.invariant.package_is;
      known = λ n. known n ∙ ap (λ o. or_target o (used_target me (file_item_uses (view.file_item c.gated-item.result.item)) n)) (c.loop-gated.invariant.known n)
          ∙ sym (uses_more me (view.gated view.file_item) c.args.items.now c.loop-gated.gated-index c.gated-item.result there c.gated-item.is n);
    }
