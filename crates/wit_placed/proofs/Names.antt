-- Names within an interface of which only some entries stay.
use Rattle.std.proofs.Common.{◌≡◌, ℕ, inl, inr, refl, sym, subst, ap, ◌∙◌}
use Rattle.std.specs.Prelude.{string_bytes}
use Rattle.wit_plans.specs.Passed.wit_types-declared-interface-Interface.{Interface}
use Rattle.wit_plans.specs.Passed.wit_features-Features.{FeatureSet}
use Rattle.wit_moved_trees.specs.Passed.wit_moves-Moved.{Places, is_placed, to, IsMovedFunction}
use Rattle.wit_moved_trees.specs.Passed.wit_moves-Interfaces.{function_stays, IsMovedInterface}
use Rattle.wit_plans.specs.Moves.{no_interfaces, interface_goes, interface_stays}
use Rattle.wit_placed.specs.Naming.{HasNamesApart, MovedInterfacesHaveNamesApart}
use Rattle.wit_placed.proofs.Entries.{entry_was, kept_apart}

interface_apart : (features : FeatureSet) (places : Places) (owner : ℕ) (d e : Interface) → IsMovedInterface features places owner d e → HasNamesApart d → HasNamesApart e
interface_apart features places owner d e m names = record {
  types = kept_apart (is_placed places) (λ (i j : ℕ). j ≡ to places i) d.types.entries e.types.entries m.types names.types;
  functions = kept_apart (function_stays features places) (IsMovedFunction (to places)) d.functions.entries e.functions.entries m.functions names.functions;
  named = λ f has.
      (let r = entry_was (function_stays features places) (IsMovedFunction (to places)) d.functions.entries e.functions.entries m.functions f has in ap string_bytes r.3.name ∙ names.named (f.0, r.0) r.1);
  between = λ t f has_t has_f same.
      (let a = entry_was (is_placed places) (λ (i j : ℕ). j ≡ to places i) d.types.entries e.types.entries m.types t has_t in
      let b = entry_was (function_stays features places) (IsMovedFunction (to places)) d.functions.entries e.functions.entries m.functions f has_f in
      names.between (t.0, a.0) (f.0, b.0) a.1 b.1 same);
}

pub names_apart : MovedInterfacesHaveNamesApart
names_apart features s owner _ _ no_interfaces names d h = absurd h
names_apart features s owner _ _ (interface_goes x ds es st rest) names d h = names_apart features s owner ds es rest (λ y has. names y (inr has)) d h
names_apart features s owner _ _ (interface_stays x y ds es st m rest) names d h = elim h as (λ _. HasNamesApart d) [
  | inl here ↦ subst HasNamesApart (sym here) (interface_apart features s.types owner x y m (names x (inl refl)))
  | inr later ↦ names_apart features s owner ds es rest (λ z has. names z (inr has)) d later
]
