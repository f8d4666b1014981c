use Rattle.std.proofs.Common.{◌≡◌, ℕ, true, false, refl, subst}
use Rattle.wit_types.specs.declared.kind.«Type».TheVariants.{Id}
use Rattle.wit_rules.specs.Passed.wit_syntax-AstView as view
use Rattle.wit_resources.specs.Natures.{ref_nature}
use Rattle.wit_resources.specs.declared.natures.Nature.{Nature}
use Rattle.wit_resources.proofs.handles.check_handle.Goals as goal

pub unreachable-requires : goal.unreachable-requires
unreachable-requires c = let e = c.requires.there (view.id c.args.name.now) (0, refl) in c.in-None.ensures.none e.0 e.1

pub returns-in-Some-clause-ok : goal.returns-in-Some-clause-ok
returns-in-Some-clause-ok c = λ rule at b.
    let same : b.type_id ≡ c.in-Some.id = c.requires.distinct c.args.name.now.name.now b.type_id c.in-Some.id b.entry c.in-Some.ensures.some in
    let no : (ref_nature c.args.natures.now (Id c.in-Some.id)).is_resource ≡ false = subst (λ (i : ℕ). (ref_nature c.args.natures.now (Id i)).is_resource ≡ false) same b.other in
    let yes : (ref_nature c.args.natures.now (Id c.in-Some.id)).is_resource ≡ true = subst (λ (n : Nature). n.is_resource ≡ true) c.get-in-Some-1.ensures c.if-get.true in
    cc
