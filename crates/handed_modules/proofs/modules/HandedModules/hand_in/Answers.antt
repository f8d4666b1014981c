use Rattle.std.proofs.Common.{◌≡◌, sym, ap, subst, ◌∙◌, map, true, false}
use Rattle.std.specs.List.{list_all, list_any}
use Rattle.std.proofs.lemmas.List.Folds.{list_all-map}
use Rattle.handed_modules.specs.Library.{ArgumentInput, are_known, argument_input, instance_input}
use Rattle.handed_modules.specs.Modules.{AreApart, module_input, doubles, knows}
use Rattle.handed_modules.proofs.Kept.{apart}
use Rattle.handed_modules.proofs.Lists.{any_map}
use Rattle.handed_modules.proofs.modules.HandedModules.hand_in.Goals as goal

pub returns-then-is_duplicate-clause-cause : goal.returns-then-is_duplicate-clause-cause
returns-then-is_duplicate-clause-cause c =
    let test = doubles (module_input c.args.handed) in
    ap (list_any test) (sym c.self.view_is) ∙ any_map test module_input c.self.inside.modules.items ∙ ap (list_any (λ n. test (module_input n))) (sym c.deref.ensures.value) ∙ sym c.is_duplicate.ensures ∙ c.if-is_duplicate.true

pub returns-then-not-knows_arguments-clause-cause : goal.returns-then-not-knows_arguments-clause-cause
returns-then-not-knows_arguments-clause-cause c =
    let m = module_input c.args.handed in
    let test = doubles m in
    let given = c.args.handed.arguments.items in (
      list_all-map (λ (a : ArgumentInput). are_known (knows c.args.self.now m) a.instance) argument_input given
          ∙ ap (λ ms. list_all (λ a. are_known (knows ms m) (instance_input a.1)) given) (sym c.self.view_is ∙ ap (map module_input) (sym c.deref-2.ensures.value)) ∙ sym c.knows_arguments.ensures ∙ c.if-not-knows_arguments.true,
      λ is.
          let same = ap (list_any test) (sym c.self.view_is) ∙ any_map test module_input c.self.inside.modules.items ∙ ap (list_any (λ n. test (module_input n))) (sym c.deref.ensures.value) ∙ sym c.is_duplicate.ensures ∙ c.if-is_duplicate.false in
          let bad : true ≡ false = sym is ∙ same in
          cc,
    )

pub returns-clause-other : goal.returns-clause-other
returns-clause-other c is =
    let test = doubles (module_input c.args.handed) in
    let same = ap (list_any test) (sym c.self.view_is) ∙ any_map test module_input c.self.inside.modules.items ∙ ap (list_any (λ n. test (module_input n))) (sym c.deref.ensures.value) ∙ sym c.is_duplicate.ensures ∙ c.if-is_duplicate.false in
    absurd (let bad : true ≡ false = sym is ∙ same in cc)

pub returns-clause-known : goal.returns-clause-known
returns-clause-known c is =
    let m = module_input c.args.handed in
    let given = c.args.handed.arguments.items in
    let same = list_all-map (λ (a : ArgumentInput). are_known (knows c.args.self.now m) a.instance) argument_input given
    ∙ ap (λ ms. list_all (λ a. are_known (knows ms m) (instance_input a.1)) given) (sym c.self.view_is ∙ ap (map module_input) (sym c.deref-2.ensures.value)) ∙ sym c.knows_arguments.ensures ∙ c.if-not-knows_arguments.false in
    absurd (let bad : true ≡ false = sym same ∙ is in cc)

pub invariant_of-self-2 : goal.invariant_of-self-2
invariant_of-self-2 c = subst AreApart (sym c.in_ok-put.ensures.ok) (apart (module_input c.args.handed) (map module_input c.self.inside.modules.items) c.self.invariant)
