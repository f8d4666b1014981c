use Rattle.std.proofs.Common.{◌≡◌, Vec, sym, subst}
use Rattle.std.proofs.lemmas.Result.{IfOk-weaker}
use Rattle.std.specs.declared.alloc.Global.{Global}
use Rattle.wit_syntax.specs.AstView as view
use Rattle.wit_scopes.specs.View as scope_view
use Rattle.wit_placeholders.specs.Passed.wit_foreign-declared-needs-Need.{Need}
use Rattle.wit_placeholders.specs.Passed.wit_foreign-Needs.{AreUses}
use Rattle.wit_placeholders.specs.Passed.wit_foreign-View as asked
use Rattle.wit_package.specs.TopUses.{with_top_uses}
use Rattle.wit_package.proofs.Among.{all_uses}
use Rattle.wit_package.proofs.resolve.needs_of.Goals as goal

pub returns-clause-uses : goal.returns-clause-uses
returns-clause-uses c =
    let me = view.package_name c.args.declared.now.name in
    let uses = scope_view.uses c.as_slice-2.result.now in
    let own = asked.needs c.in_ok-needs.needs.items in
    IfOk-weaker c.with_top_uses.result (λ (v : Vec Need Global). asked.needs v.items ≡ with_top_uses me uses own) (λ (v : Vec Need Global). AreUses (asked.needs v.items))
    (λ v e. subst AreUses (sym e) (all_uses me uses own c.in_ok-needs.ensures.uses)) c.with_top_uses.ensures
