use Rattle.std.proofs.Common.{◌≡◌, refl, sym, ap, ◌∙◌}
use Rattle.std.proofs.lemmas.Option.{same_Some}
use Rattle.wit_types.specs.declared.interface.TypeDef.{TypeDef}
use Rattle.wit_reach.specs.Ids.{kind_ids}
use Rattle.wit_reach.specs.Deps.{def_dep}
use Rattle.wit_reach.proofs.Local.{used_there}
use Rattle.wit_reach.proofs.Used.{if_some}
use Rattle.wit_reach.proofs.deps.type_interface_dep.Goals as goal

pub dep_of-requires : goal.dep_of-requires
dep_of-requires c = used_there c.args.types.now c.args.id c.get.result.now (kind_ids c.get.result.now.kind) c.requires.backward c.requires.there c.get.ensures refl

pub returns-clause-some : goal.returns-clause-some
returns-clause-some c = if_some c.dep_of.result (λ j e. (c.get.result.now, c.get.ensures, sym c.dep_of.ensures ∙ e))

pub returns-clause-all : goal.returns-clause-all
returns-clause-all c = λ j h.
    let same : c.get.result.now ≡ h.0 = same_Some c.get.result.now h.0 (sym c.get.ensures ∙ h.1) in
    c.dep_of.ensures ∙ ap (λ (d : TypeDef). def_dep c.args.types.now d) same ∙ h.2
