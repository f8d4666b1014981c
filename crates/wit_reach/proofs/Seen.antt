-- What a walk sees that types are made of.
use Rattle.std.proofs.Common.{◌≡◌, ℕ, true, List, [], ◌∷◌, Some, subst, refl}
use Rattle.std.specs.Prelude.{slice_get}
use Rattle.wit_types.specs.declared.interface.TypeDef.{TypeDef}
use Rattle.wit_types.specs.Passed.wit_order-Order.{Has}
use Rattle.wit_reach.specs.Paths.{IsPath, AreBackward}
use Rattle.wit_reach.specs.Ids.{kind_ids}
use Rattle.wit_reach.specs.Types.{IsMadeOf, AreTypesBackward}
use Rattle.wit_reach.specs.Made.{sees_into, Sees}
use Rattle.wit_reach.specs.declared.made.Sight.{Sight}
use Rattle.wit_reach.specs.declared.made.Sight.TheVariants as sight

-- what it sees
pub seen : (s : Sight) (ds : List TypeDef) (i j : ℕ) (d : TypeDef) → slice_get ds i ≡ Some d → sees_into s d.owner ≡ true → Has (kind_ids d.kind) j → Sees s ds i j
seen sight.All ds i j d there into h = (d, there, h)
seen (sight.Of by) ds i j d there into h = (d, there, into, h)

-- it sees into the type, and that is made of it
pub seen_into : (s : Sight) (ds : List TypeDef) (i j : ℕ) (d : TypeDef) → slice_get ds i ≡ Some d → Sees s ds i j → (sees_into s d.owner ≡ true) × Has (kind_ids d.kind) j
seen_into sight.All ds i j d there u =
    let same : u.0 ≡ d = let t = u.1 in cc in
    (refl, subst (λ (x : TypeDef). Has (kind_ids x.kind) j) same u.2)
seen_into (sight.Of by) ds i j d there u =
    let same : u.0 ≡ d = let t = u.1 in cc in
    (subst (λ (x : TypeDef). sees_into (sight.Of by) x.owner ≡ true) same u.2, subst (λ (x : TypeDef). Has (kind_ids x.kind) j) same u.3)

pub seen_made : (s : Sight) (ds : List TypeDef) (i j : ℕ) → Sees s ds i j → IsMadeOf ds i j
seen_made sight.All ds i j u = u
seen_made (sight.Of by) ds i j u = (u.0, u.1, u.3)

pub seen_backward : (s : Sight) (ds : List TypeDef) → AreTypesBackward ds → AreBackward (Sees s ds)
seen_backward s ds back = λ i j u. back i j (seen_made s ds i j u)

-- a path is one where more is used
pub path_over : (uses more : ℕ → ℕ → Type 0) → ((i j : ℕ) → uses i j → more i j) → (a : ℕ) (via : List ℕ) (b : ℕ) → IsPath uses a via b → IsPath more a via b
path_over uses more over a [] b p = p
path_over uses more over a (k ∷ via) b p = (over a k p.0, path_over uses more over k via b p.1)
