use Rattle.std.proofs.Common.{◌≡◌, ◌++◌, [], List, Some, get_or, subst, arith}
use Rattle.std.proofs.lemmas.Option.{slice_get-get_or}
use Rattle.std.specs.Prelude.{slice_get}
use Rattle.wit_words.specs.Slice.{Slice}
use Rattle.wit_productions.specs.declared.names.Id.{Id}
use Rattle.wit_syntax.specs.AstView as view
use Rattle.wit_rules.specs.Breaks.{Breaks, IsKept}
use Rattle.wit_rules.proofs.Breaking.{kept_more}
use Rattle.wit_lookups.specs.declared.found.Found.{Found}
use Rattle.wit_lookups.specs.Lookups.{NameBreaks, found_type}
use Rattle.wit_lookups.specs.Names.{Name}
use Rattle.wit_checked_lookups.specs.View.{texts}
use Rattle.wit_lookups.proofs.Loops.{kept_through}
use Rattle.wit_checked_lookups.proofs.members.check_types.Goals as goal

pub loop-name-preserved : goal.loop-name-preserved
loop-name-preserved c =
    let others : List Name = texts c.args.others.now ++ c.args.known.now ++ c.args.index.now.items in
    let breaks_of : Id → Breaks = λ n. NameBreaks (found_type c.args.types.now others n.name.now) (view.id n) in
    let blank : Id = record { name = record { ref_ptr = (0, 0); now = [] }; span = record { start = 0; end = 0 } } in
    let name : Id = get_or c.args.found.now c.loop-name.name-index blank in
    let there : slice_get c.args.found.now c.loop-name.name-index ≡ Some name = slice_get-get_or c.args.found.now c.loop-name.name-index blank c.loop-name-test.true in
    kept_more breaks_of c.args.found.now c.loop-name.name-index name there c.loop-name.invariant
    (subst (λ (f : Found). IsKept (NameBreaks f (view.id name))) c.found_type.ensures c.in_ok-check_found.ensures.ok)

pub returns-clause-ok : goal.returns-clause-ok
returns-clause-ok c =
    let others : List Name = texts c.args.others.now ++ c.args.known.now ++ c.args.index.now.items in
    let breaks_of : Slice → Breaks = λ x. NameBreaks (found_type c.args.types.now others x.text) x in
    kept_through breaks_of view.id c.args.found.now c.loop-name.name-index (omega (arith, c.loop-name-test.false)) c.loop-name.invariant
