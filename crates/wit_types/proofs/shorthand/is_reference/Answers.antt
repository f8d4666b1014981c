use Rattle.wit_types.proofs.Aliases.{handle_refers, resource_refers, both_ways, told}
use Rattle.wit_types.proofs.shorthand.is_reference.Goals as goal

pub returns-in-Some : goal.returns-in-Some
returns-in-Some c =
    both_ways (told c.meaning_of.result c.args.resource c.eq.result c.eq.ensures)
    (handle_refers c.args.types.now c.args.id c.meaning_of-meant.result c.in-Some.owned c.meaning_of.result c.args.resource c.meaning_of-meant.ensures c.in-Some.ensures c.meaning_of.ensures)

pub returns-then-eq : goal.returns-then-eq
returns-then-eq c =
    let test = told c.meaning_of-meant.result c.args.resource c.eq-in-None.result c.eq-in-None.ensures in
    let by = resource_refers c.args.types.now c.args.id c.meaning_of-meant.result c.args.resource c.meaning_of-meant.ensures c.in-None.ensures in
    ((λ t. by.0 (test.0 c.if-eq.true, c.is_resource.ensures.0 t)), (λ s. c.is_resource.ensures.1 (by.1 s).1))

pub returns-else-eq : goal.returns-else-eq
returns-else-eq c =
    let test = told c.meaning_of-meant.result c.args.resource c.eq-in-None.result c.eq-in-None.ensures in
    let by = resource_refers c.args.types.now c.args.id c.meaning_of-meant.result c.args.resource c.meaning_of-meant.ensures c.in-None.ensures in
    ((λ t. absurd (cc)), (λ s. test.1 (by.1 s).0))
