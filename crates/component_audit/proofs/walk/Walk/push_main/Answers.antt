use Rattle.std.proofs.Common.{rules, ◌≡◌, Bool, true, false, List, [], ◌∷◌, ◌++◌, ◌∙◌, ap, refl}
use Rattle.std.proofs.lemmas.List.Folds.{list_all-append}
use Rattle.std.specs.List.{list_all}
use Rattle.std.specs.Prelude.{if◌then◌else◌, is_ok}
use Rattle.component_audit.specs.SpacesView as view
use Rattle.component_audit.proofs.walk.Walk.push_main.Goals as goal

-- one more that lies within
pushed : {X : Type 0} (p : X → Bool) (xs ys : List X) (y : X) (b : Bool) → ys ≡ (if b then xs ++ y ∷ [] else xs) → list_all p xs ≡ true → p y ≡ true → list_all p ys ≡ true
pushed p xs ys y true is all one = ap (list_all p) is ∙ list_all-append p xs (y ∷ []) ∙ rw (all, one) refl
pushed p xs ys y false is all one = ap (list_all p) is ∙ all

pub invariant_of-self-clause-within : goal.invariant_of-self-clause-within
invariant_of-self-clause-within c = record {
  instances = pushed (view.is_within c.args.self.now.length) c.args.self.now.spaces.instances.items c.push.new.self.items _ (is_ok c.push.result) c.push.ensures.items c.args.self.now.within.instances (search rules);
  imports = c.args.self.now.within.imports;
  exports = c.args.self.now.within.exports;
}
