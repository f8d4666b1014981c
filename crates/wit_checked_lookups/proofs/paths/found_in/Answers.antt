use Rattle.std.proofs.Common.{List, Bool, true, false, sym, ap, subst, ◌≡◌, ◌∙◌}
use Rattle.wit_lookups.specs.Names.{Name, has}
use Rattle.wit_checked_lookups.specs.View.{texts}
use Rattle.wit_checked_lookups.proofs.NameTests.{has_texts, found_other, found_nothing}
use Rattle.wit_checked_lookups.proofs.paths.found_in.Goals as goal

pub returns-then-is_one_of : goal.returns-then-is_one_of
returns-then-is_one_of c =
    let same = ap texts c.as_slice.ensures.value ∙ c.in_ok-others.ensures in
    found_other c.args.types.now _ c.args.name.now (sym c.has_name.ensures ∙ c.if-has_name.false)
    (subst (λ (ns : List Name). has ns c.args.name.now ≡ true) same (sym (c.is_one_of.ensures ∙ has_texts c.as_slice.result.now c.args.name.now) ∙ c.if-is_one_of.true))

pub returns : goal.returns
returns c =
    let same = ap texts c.as_slice.ensures.value ∙ c.in_ok-others.ensures in
    found_nothing c.args.types.now _ c.args.name.now (sym c.has_name.ensures ∙ c.if-has_name.false)
    (subst (λ (ns : List Name). has ns c.args.name.now ≡ false) same (sym (c.is_one_of.ensures ∙ has_texts c.as_slice.result.now c.args.name.now) ∙ c.if-is_one_of.false))
