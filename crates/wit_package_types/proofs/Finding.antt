-- What is found, and what isn't.
use Rattle.std.proofs.Common.{◌≡◌, ℕ, Option, Some, None, IfSome, IfNone, sym, subst, ◌∙◌}
use Rattle.std.proofs.lemmas.Option.{same_Some}
use Rattle.std.specs.Prelude.{slice_get}
use Rattle.name_places.specs.FirstPlaces.{place_of}
use Rattle.wit_arena.specs.Tree.{Name}
use Rattle.wit_arena.specs.Table.{Entries}
use Rattle.wit_arena.specs.Meaning.{Has}
use Rattle.wit_arena.proofs.Lists.{map_has}
use Rattle.wit_package_types.specs.Known.{KnownTypes, FindsOwn}
use Rattle.wit_package_types.specs.Fill.{names_of}

pub if_some : {X : Type 0} (o : Option X) (P Q : X → Type 0) → ((x : X) → P x → Q x) → IfSome o P → IfSome o Q
if_some (Some x) P Q f p = f x p
if_some None P Q f p = p

pub if_none : {X : Type 0} (o : Option X) {P Q : Type 0} → (P → Q) → IfNone o P → IfNone o Q
if_none (Some x) f p = p
if_none None f p = f p

pub none_if : {X : Type 0} (o : Option X) (P : Type 0) → P → IfNone o P
none_if (Some x) P p = tt
none_if None P p = p

module _ (k : KnownTypes) (i y : Name) (p : ℕ) (first : place_of i k.names ≡ Some p) (t : Entries) (there : slice_get k.tables p ≡ Some t) where
  pub found_own : (j : ℕ) → Has t (y, j) → FindsOwn k i y j
  found_own j entry = record { place = p; first = first; table = t; there = there; entry = entry }

  pub not_own : ((j : ℕ) → Has t (y, j) → ⊥) → (j : ℕ) → FindsOwn k i y j → ⊥
  not_own none j f =
      let place : f.place ≡ p = same_Some f.place p (sym f.first ∙ first) in
      let table : f.table ≡ t = same_Some f.table t (sym f.there ∙ subst (λ (q : ℕ). slice_get k.tables q ≡ Some t) (sym place) there) in
      none j (subst (λ (es : Entries). Has es (y, j)) table f.entry)

-- a name that is one of a table's stands in it
pub named_entry : (table : Entries) (x : Name) → Has (names_of table) x → (i : ℕ) × Has table (x, i)
named_entry table x has =
    let m = map_has (λ (e : Name × ℕ). e.0) table x has in
    (m.0.1, subst (λ (n : Name). Has table (n, m.0.1)) (sym m.2) m.1)
