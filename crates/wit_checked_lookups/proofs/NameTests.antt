-- Tests of names.
use Rattle.std.proofs.Common.{◌≡◌, ℕ, ◌≤◌, zero, suc, Bool, true, false, List, [], ◌∷◌, ◌++◌, Some, length, Bor, refl, ap, ◌∙◌, arith}
use Rattle.std.proofs.lemmas.Option.{same_Some}
use Rattle.std.proofs.lemmas.List.Folds.{list_any-append}
use Rattle.std.specs.Prelude.{slice_get, bytes_eq, ◌||◌}
use Rattle.std.specs.List.{list_any}
use Rattle.wit_lookups.specs.declared.found.Found.TheVariants.{OfAnotherKind, Missing}
use Rattle.wit_lookups.specs.Names.{Name, has, known_at}
use Rattle.wit_lookups.specs.Lookups.{found_type}
use Rattle.wit_checked_lookups.specs.View.{texts}

pub has_texts : (names : List (Bor (List ℕ))) (x : Name) → list_any (λ n. bytes_eq x n.now) names ≡ has (texts names) x
has_texts [] x = refl
has_texts (n ∷ ns) x = ap (λ (b : Bool). bytes_eq x n.now || b) (has_texts ns x)

-- one of three
pub has_three : (a b c : List Name) (x : Name) → has (a ++ b ++ c) x ≡ (has a x || has b x || has c x)
has_three a b c x = list_any-append (bytes_eq x) (a ++ b) c ∙ ap (λ (h : Bool). h || has c x) (list_any-append (bytes_eq x) a b)

-- what is known in a file is what stands at its place, or nothing
pub known_here : (known : List (List Name)) (file : ℕ) (ns : List Name) → slice_get known file ≡ Some ns → known_at known file ≡ ns
known_here [] file ns e = absurd cc
known_here (ms ∷ all) zero ns e = same_Some ms ns e
known_here (ms ∷ all) (suc file) ns e = known_here all file ns e

pub known_nowhere : (known : List (List Name)) (file : ℕ) → length known ≤ file → known_at known file ≡ []
known_nowhere [] file e = refl
known_nowhere (ms ∷ all) zero e = absurd (omega arith)
known_nowhere (ms ∷ all) (suc file) e = known_nowhere all file (omega arith)

-- what is found where a type is asked for
pub found_other : (types others : List Name) (x : Name) → has types x ≡ false → has others x ≡ true → OfAnotherKind ≡ found_type types others x
found_other types others x none some = rw (none, some) refl

pub found_nothing : (types others : List Name) (x : Name) → has types x ≡ false → has others x ≡ false → Missing ≡ found_type types others x
found_nothing types others x none neither = rw (none, neither) refl
