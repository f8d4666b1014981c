-- A world that is chosen is there.
use Rattle.std.proofs.Common.{◌≡◌, ℕ, zero, suc, ◌<◌, Bool, true, false, List, [], ◌∷◌, length, Option, Some, None, slice_get, refl, sym, ap, arith, inl, inr}
use Rattle.std.specs.Prelude.{bytes_eq, string_bytes, String, cond}
use Rattle.std.specs.Map.{lookup}
use Rattle.std.specs.declared.alloc.Global.{Global}
use Rattle.linked_components.specs.Passed.wit_graph-Graph.{Graph, IsGraph}
use Rattle.wit_order.specs.Order.{Has}
use Rattle.wit_productions.specs.NameTree.{UsePathTree, id, in_package}
use Rattle.wit_selection.specs.Selection.{IsSelected, only, only_entry, only_world, only_world_of, world_in, world_of, meant, selected}
use Rattle.wit_types.specs.declared.«package».Package.{Package}

has_at : {X : Type 0} (xs : List X) (i : ℕ) (x : X) → slice_get xs i ≡ Some x → Has xs x
has_at [] i x there = absurd cc
has_at (y ∷ xs) zero x there = inl (let same : y ≡ x = cc in sym same)
has_at (y ∷ xs) (suc i) x there = inr (has_at xs i x there)

-- of some package of these it is a world
abbrev IsWorldOf : List Package → ℕ → Type 0
IsWorldOf packages w = (p : Package) × (e : String Global × ℕ) × Has packages p × Has p.worlds.entries e × (e.1 ≡ w)

lookup_has : {K V : Type 0} (test : K → Bool) (es : List (K × V)) (v : V) → lookup test es ≡ Some v → (k : K) × Has es (k, v)
lookup_has {K} {V} test [] v h = absurd cc
lookup_has {K} {V} test (e ∷ es) v h = by_cases (test e.0) h (λ k. lookup_has test es v k)
  where
    by_cases : (b : Bool) → cond b (Some e.1) (lookup test es) ≡ Some v → (lookup test es ≡ Some v → (k : K) × Has es (k, v)) → (k : K) × Has (e ∷ es) (k, v)
    by_cases true found later = (e.0, inl (let same : e.1 ≡ v = cc in ap (λ (w : V). (e.0, w)) (sym same)))
    by_cases false found later = (let r = later found in (r.0, inr r.1))

only_has : (es : List (String Global × ℕ)) (w : ℕ) → only_entry es ≡ Some w → (e : String Global × ℕ) × Has es e × (e.1 ≡ w)
only_has [] w h = absurd cc
only_has (e ∷ []) w h = (e, inl refl, (let same : e.1 ≡ w = cc in same))
only_has (e ∷ f ∷ es) w h = absurd cc

module _ (packages : List Package) where
  named_in : (name : List ℕ) (i w : ℕ) (o : Option Package) → slice_get packages i ≡ o → world_in o name ≡ Some w → IsWorldOf packages w
  named_in name i w None at h = absurd cc
  named_in name i w (Some p) at h =
      let (k, there) = lookup_has (λ (n : String Global). bytes_eq name (string_bytes n)) p.worlds.entries w h in
      (p, (k, w), has_at packages i p at, there, refl)

  named : (name : List ℕ) (o : Option ℕ) (w : ℕ) → world_of packages o name ≡ Some w → IsWorldOf packages w
  named name None w h = absurd cc
  named name (Some i) w h = named_in name i w (slice_get packages i) refl h

  only_in : (i w : ℕ) (o : Option Package) → slice_get packages i ≡ o → only_world o ≡ Some w → IsWorldOf packages w
  only_in i w None at h = absurd cc
  only_in i w (Some p) at h = let (e, there, is) = only_has p.worlds.entries w h in (p, e, has_at packages i p at, there, is)

  only_of : (o : Option ℕ) (w : ℕ) → only_world_of packages o ≡ Some w → IsWorldOf packages w
  only_of None w h = absurd cc
  only_of (Some i) w h = only_in i w (slice_get packages i) refl h

  by_path : (main : List ℕ) (d : UsePathTree) (w : ℕ) → selected packages main d ≡ Some w → IsWorldOf packages w
  by_path main (id x) w h = named x.text (only main) w h
  by_path main (in_package t x) w h = named x.text (meant packages t) w h

  selected_of : (main : List ℕ) (text : Option (List ℕ)) (w : ℕ) → IsSelected packages main text w → IsWorldOf packages w
  selected_of main None w h = only_of (only main) w h
  selected_of main (Some text) w (d, is, h) = by_path main d w h

pub chosen_there : (g : Graph) (main : List ℕ) (text : Option (List ℕ)) (w : ℕ) → IsGraph g → IsSelected g.tables.packages main text w → w < length g.tables.worlds.elaborated
chosen_there g main text w whole h =
    let (p, e, of, there, is) = selected_of g.tables.packages main text w h in
    let below : e.1 < length g.tables.worlds.listed = (whole.whole.packages_are p of).worlds_are e there in
    let many : length g.tables.worlds.elaborated ≡ length g.tables.worlds.listed = whole.whole.whole.sound.so_many in
    omega (arith, below, is, many)
