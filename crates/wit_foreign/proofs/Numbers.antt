-- The numbers of what is asked of other packages: interfaces are counted by themselves, and so are worlds.
use Rattle.std.proofs.Common.{◌≡◌, ℕ, ◌+◌, ◌<◌, ◌≤◌, zero, suc, List, [], ◌∷◌, inl, inr, Some, take, sym, ap, ◌∙◌, arith}
use Rattle.std.proofs.lemmas.Option.{same_Some}
use Rattle.std.proofs.lemmas.Bool.{cases_lt}
use Rattle.std.specs.Prelude.{slice_get}
use Rattle.wit_types.specs.declared.«package».AstItem.{AstItem}
use Rattle.wit_types.specs.declared.«package».AstItem.TheVariants as ids
use Rattle.wit_package_types.specs.Passed.wit_arena-Tree.{Place, in_interface, in_world, in_listed, Owner}
use Rattle.wit_package_types.specs.Passed.wit_arena-Meaning.{Has}
use Rattle.wit_foreign.specs.Needs.{NeedTree}
use Rattle.wit_foreign.specs.Items.{Items, interface_count, world_count, interfaces_in, worlds_in, IsNumbered, AreItemsOf}

-- how many stand in front of a place, and there
pub interfaces_before : (es : Items) (p : ℕ) (e : Owner × AstItem) → slice_get es p ≡ Some e → interfaces_in (take p es) + interface_count e.1 ≤ interfaces_in es
interfaces_before [] p e at = absurd cc
interfaces_before (f ∷ es) zero e at = let same : interface_count f.1 ≡ interface_count e.1 = ap (λ (z : Owner × AstItem). interface_count z.1) (same_Some f e at) in omega (arith, same)
interfaces_before (f ∷ es) (suc p) e at = let less : interfaces_in (take p es) + interface_count e.1 ≤ interfaces_in es = interfaces_before es p e at in omega (arith, less)

-- more stand in front of a later place
pub interfaces_between : (es : Items) (p q : ℕ) (e : Owner × AstItem) → p < q → slice_get es p ≡ Some e → interfaces_in (take p es) + interface_count e.1 ≤ interfaces_in (take q es)
interfaces_between [] p q e less at = absurd cc
interfaces_between (f ∷ es) p zero e less at = absurd (omega (arith, less))
interfaces_between (f ∷ es) zero (suc q) e less at = (let same : interface_count f.1 ≡ interface_count e.1 = ap (λ (z : Owner × AstItem). interface_count z.1) (same_Some f e at) in omega (arith, same))
interfaces_between (f ∷ es) (suc p) (suc q) e less at = (let more = interfaces_between es p q e (omega (arith, less)) at in omega (arith, more))

pub worlds_between : (es : Items) (p q : ℕ) (e : Owner × AstItem) → p < q → slice_get es p ≡ Some e → worlds_in (take p es) + world_count e.1 ≤ worlds_in (take q es)
worlds_between [] p q e less at = absurd cc
worlds_between (f ∷ es) p zero e less at = absurd (omega (arith, less))
worlds_between (f ∷ es) zero (suc q) e less at = (let same : world_count f.1 ≡ world_count e.1 = ap (λ (z : Owner × AstItem). world_count z.1) (same_Some f e at) in omega (arith, same))
worlds_between (f ∷ es) (suc p) (suc q) e less at = (let more = worlds_between es p q e (omega (arith, less)) at in omega (arith, more))

-- ---- numbers

interface_ids : (j k : ℕ) → ids.Interface j ≡ ids.Interface k → j ≡ k
interface_ids j k e = cc

world_ids : (j k : ℕ) → ids.World j ≡ ids.World k → j ≡ k
world_ids j k e = cc

pub interface_or_world : (j k : ℕ) → ids.Interface j ≡ ids.World k → ⊥
interface_or_world j k e = cc

-- the number of an interface or a world is how many stand in front of it
numbered_interface : (n m : ℕ) (p : Place) (k : ℕ) → IsNumbered n m p (ids.Interface k) → k ≡ n
numbered_interface n m (in_interface x) k e = interface_ids k n e
numbered_interface n m (in_world x) k e = absurd (interface_or_world k m e)
numbered_interface n m (in_listed w s x) k e = absurd e

numbered_world : (n m : ℕ) (p : Place) (k : ℕ) → IsNumbered n m p (ids.World k) → k ≡ m
numbered_world n m (in_interface x) k e = absurd (interface_or_world n k (sym e))
numbered_world n m (in_world x) k e = world_ids k m e
numbered_world n m (in_listed w s x) k e = absurd e

module _ (needs : List NeedTree) (items : Items) (are : AreItemsOf needs items) where
  pub interface_number : (p : ℕ) (w : Owner) (k : ℕ) → slice_get items p ≡ Some (w, ids.Interface k) → k ≡ interfaces_in (take p items)
  interface_number p w k at = numbered_interface (interfaces_in (take p items)) (worlds_in (take p items)) w.place k (are.numbered p w (ids.Interface k) at)

  pub world_number : (p : ℕ) (w : Owner) (k : ℕ) → slice_get items p ≡ Some (w, ids.World k) → k ≡ worlds_in (take p items)
  world_number p w k at = numbered_world (interfaces_in (take p items)) (worlds_in (take p items)) w.place k (are.numbered p w (ids.World k) at)

  pub interface_below : (w : Owner) (k : ℕ) → Has items (w, ids.Interface k) → k < interfaces_in items
  interface_below w k (p, at) =
      let is : k ≡ interfaces_in (take p items) = interface_number p w k at in
      let less : interfaces_in (take p items) + 1 ≤ interfaces_in items = interfaces_before items p (w, ids.Interface k) at in
      omega (arith, less, is)

  one_owner : (p q : ℕ) (v w : Owner) (h i : AstItem) → slice_get items p ≡ Some (v, h) → slice_get items q ≡ Some (w, i) → p ≡ q → v ≡ w
  one_owner p q v w h i at_p at_q same = ap (λ (e : Owner × AstItem). e.0) (same_Some (v, h) (w, i) (sym at_p ∙ ap (slice_get items) same ∙ at_q))

  -- interfaces of one number are one
  interface_apart : (p q : ℕ) (v w : Owner) (k : ℕ) → slice_get items p ≡ Some (v, ids.Interface k) → slice_get items q ≡ Some (w, ids.Interface k) → p < q → ⊥
  interface_apart p q v w k at_p at_q less =
      let is_p = interface_number p v k at_p in
      let is_q = interface_number q w k at_q in
      let more = interfaces_between items p q (v, ids.Interface k) less at_p in
      omega (arith, more, is_p, is_q)

  pub interface_alone : (v w : Owner) (k : ℕ) → Has items (v, ids.Interface k) → Has items (w, ids.Interface k) → v ≡ w
  interface_alone v w k (p, at_p) (q, at_q) =
      elim (cases_lt p q) as (λ _. v ≡ w) [
        | inl less ↦ absurd (interface_apart p q v w k at_p at_q less)
        | inr past ↦ elim (cases_lt q p) as (λ _. v ≡ w) [
          | inl less ↦ absurd (interface_apart q p w v k at_q at_p less)
          | inr not_past ↦ one_owner p q v w (ids.Interface k) (ids.Interface k) at_p at_q (omega (arith, past, not_past))
        ]
      ]

  world_apart : (p q : ℕ) (v w : Owner) (k : ℕ) → slice_get items p ≡ Some (v, ids.World k) → slice_get items q ≡ Some (w, ids.World k) → p < q → ⊥
  world_apart p q v w k at_p at_q less =
      let is_p = world_number p v k at_p in
      let is_q = world_number q w k at_q in
      let more = worlds_between items p q (v, ids.World k) less at_p in
      omega (arith, more, is_p, is_q)

  pub world_alone : (v w : Owner) (k : ℕ) → Has items (v, ids.World k) → Has items (w, ids.World k) → v ≡ w
  world_alone v w k (p, at_p) (q, at_q) =
      elim (cases_lt p q) as (λ _. v ≡ w) [
        | inl less ↦ absurd (world_apart p q v w k at_p at_q less)
        | inr past ↦ elim (cases_lt q p) as (λ _. v ≡ w) [
          | inl less ↦ absurd (world_apart q p w v k at_q at_p less)
          | inr not_past ↦ one_owner p q v w (ids.World k) (ids.World k) at_p at_q (omega (arith, past, not_past))
        ]
      ]
