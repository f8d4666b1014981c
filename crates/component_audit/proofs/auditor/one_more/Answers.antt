use Rattle.std.proofs.Common.{◌≡◌, List, Option, Bool, [], ◌∷◌, ◌++◌, map, ap, sym, subst, ◌∙◌}
use Rattle.std.specs.Prelude.{option_map}
use Rattle.component_audit.specs.declared.spaces.CoreInstance.{CoreInstance}
use Rattle.component_audit.specs.declared.spaces.CoreFunction.{CoreFunction as Core}
use Rattle.wit_component.specs.Meaning.{CoreFunction, given_by, all_there}
use Rattle.component_audit.specs.Tests.{IsSoFar}
use Rattle.component_audit.specs.SpacesView.{core_function, source, given}
use Rattle.component_audit.proofs.Judged.{more_than_one, not_whole, once_of}
use Rattle.component_audit.proofs.auditor.one_more.Goals as goal

pub returns-then-found-clause-err : goal.returns-then-found-clause-err
returns-then-found-clause-err c = λ front more so_far.
    let g = given c.in-Main.given in
    more_than_one (front ++ (given_by (source c.args.instance.now) ++ more)) front more g (subst (λ (b : Bool). IsSoFar b front) c.if-found.true so_far)
    (ap (λ (i : CoreInstance). front ++ (given_by (source i) ++ more)) c.in-Main.is)

pub returns-then-not-all_there-clause-err : goal.returns-then-not-all_there-clause-err
returns-then-not-all_there-clause-err c = λ front more so_far.
    let g = given c.in-Main.given in
    let none : front ≡ [] = subst (λ (b : Bool). IsSoFar b front) c.if-found.false so_far in
    not_whole (front ++ (given_by (source c.args.instance.now) ++ more)) more g
    (ap (λ (i : CoreInstance). front ++ (given_by (source i) ++ more)) c.in-Main.is ∙ ap (λ (l : List (List (Option CoreFunction))). l ++ g ∷ more) none)
    (sym (c.all_there.ensures ∙ ap (λ (l : List (Option Core)). all_there (map (option_map core_function) l)) c.deref.ensures.value) ∙ c.if-not-all_there.true)

pub returns-else-not-all_there-clause-ok : goal.returns-else-not-all_there-clause-ok
returns-else-not-all_there-clause-ok c = λ front so_far.
    let g = given c.in-Main.given in
    let none : front ≡ [] = subst (λ (b : Bool). IsSoFar b front) c.if-found.false so_far in
    once_of (front ++ given_by (source c.args.instance.now)) g
    (ap (λ (i : CoreInstance). front ++ given_by (source i)) c.in-Main.is ∙ ap (λ (l : List (List (Option CoreFunction))). l ++ g ∷ []) none)
    (sym (c.all_there.ensures ∙ ap (λ (l : List (Option Core)). all_there (map (option_map core_function) l)) c.deref.ensures.value) ∙ c.if-not-all_there.false)
