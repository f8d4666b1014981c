-- Imports with other canonical texts, one import after the other.
use Rattle.std.proofs.Common.{◌≡◌, ℕ, zero, suc, ◌+◌, ◌<◌, ◌≤◌, List, [], ◌∷◌, length, take, Option, Some, refl, sym, ap, subst, ◌∙◌, arith}
use Rattle.std.proofs.lemmas.List.{take_all}
use Rattle.std.proofs.lemmas.Option.{slice_get_within, get_or_from_slice_get}
use Rattle.std.specs.Prelude.{Any, slice_get, option_and_then}
use Rattle.wit_types.specs.declared.world.WorldItem.TheVariants as item
use Rattle.wit_types.specs.declared.world_key.WorldKey.TheVariants as key
use Rattle.wit_types.specs.declared.«package».PackageName.{PackageName}
use Rattle.wit_names.specs.Names.{text_of, IsTextOf}
use Rattle.core_links.specs.Names.{Names}
use Rattle.interface_names.specs.Names.{AreImportsThere}
use Rattle.linked_types.proofs.Walks.{has_at}
use Rattle.linked_components.specs.Tracks.{text_at}

pub any_at : {X : Type 0} (P : X → Type 0) (xs : List X) (k : ℕ) (x : X) → slice_get xs k ≡ Some x → P x → Any P xs
any_at P xs k x at p = (k, x, slice_get_within xs k x at, get_or_from_slice_get xs k x x at, p)

none_behind : {X : Type 0} (P : X → Type 0) (xs : List X) (k : ℕ) → ((x : X) → slice_get xs k ≡ Some x → P x → ⊥) → (Any P (take k xs) → ⊥) → Any P (take (suc k) xs) → ⊥
none_behind P [] zero none before (i, x, l, is, p) = absurd (omega (arith, l))
none_behind P [] (suc k) none before (i, x, l, is, p) = absurd (omega (arith, l))
none_behind P (y ∷ ys) zero none before (zero, x, l, is, p) = none y refl (subst P (sym is) p)
none_behind P (y ∷ ys) zero none before (suc i, x, l, is, p) = absurd (omega (arith, l))
none_behind P (y ∷ ys) (suc k) none before (zero, x, l, is, p) = before (zero, x, omega arith, is, p)
none_behind P (y ∷ ys) (suc k) none before (suc i, x, l, is, p) =
    none_behind P ys k none (λ a. before (suc a.0, a.1, (let m = a.2 in omega (arith, m)), a.3, a.4)) (i, x, omega (arith, l), is, p)

pub none_more : {X : Type 0} (P : X → Type 0) (xs : List X) (k : ℕ) → ((x : X) → slice_get xs k ≡ Some x → P x → ⊥) → (Any P (take k xs) → ⊥) → Any P (take (k + 1) xs) → ⊥
none_more P xs k none before any = let next : k + 1 ≡ suc k = omega arith in none_behind P xs k none before (subst (λ n. Any P (take n xs)) next any)

pub taken_whole : {X : Type 0} (P : X → Type 0) (xs : List X) (k : ℕ) → length xs ≤ k → Any P xs → Any P (take k xs)
taken_whole P xs k within any = subst (Any P) (sym (take_all k xs within)) any

pub text_is : (text : PackageName → List ℕ → List ℕ) (n : Names) (i : ℕ) (found : Option (List ℕ)) → IsTextOf text n.known.packages n.known.interfaces i found → text_at text n i ≡ found
text_is text n i found (d, at, is) = ap (option_and_then (text_of text n.known.packages)) at ∙ sym is

-- an interface that is imported under its own key is there
pub import_there : (n : Names) (k id x : ℕ) (s : _) (at : _) → AreImportsThere n → slice_get n.world.imports.entries k ≡ Some (key.Interface id, item.Interface x s at) → id < length n.known.interfaces
import_there n k id x s at there is = (there.interfaces (key.Interface id) x s at (has_at n.world.imports.entries k (key.Interface id, item.Interface x s at) is)).0
