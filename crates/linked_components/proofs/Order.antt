-- Interfaces stand behind those whose types they use.
use Rattle.std.proofs.Common.{◌≡◌, ◌≤◌, ◌<◌, ℕ, List, [], ◌∷◌, ◌++◌, get_or, Some, inl, inr, sym, subst, ap, ◌∙◌, arith}
use Rattle.std.specs.Prelude.{map}
use Rattle.wit_order.specs.Order.{Has}
use Rattle.wit_types.specs.declared.interface.TypeOwner.{TypeOwner}
use Rattle.wit_types.specs.declared.interface.TypeOwner.TheVariants as belongs
use Rattle.wit_reach.specs.Deps.{interface_of}
use Rattle.wit_reach.specs.Holding.{IsUpTo, TypesUseEarlier}
use Rattle.wit_reach.specs.Needed.{BelongsTo}
use Rattle.wit_reach.specs.Paths.{AreRising, Reaches}
use Rattle.wit_reach.specs.Types.{IsMadeOf}
use Rattle.wit_reach.proofs.Ends.{reaches_then}
use Rattle.encodable_worlds.specs.Passed.wit_graph-Graph.{items_of, TypesOfItemsUseEarlier}
use Rattle.encodable_worlds.specs.Passed.link_table-Linking.{Linking, types_of}
use Rattle.encodable_worlds.specs.Passed.right_components-Needed.{IsTypeNeeded}
use Rattle.linked_components.specs.Order.{StandsBefore, UsedStandBefore}

-- ---- rising lists

stands_in : (f : ℕ → List ℕ) (others : List (List ℕ)) (xs : List ℕ) (b : ℕ) → Has xs b → (mid : List (List ℕ)) × (back : List (List ℕ)) × (map f xs ++ others ≡ mid ++ f b ∷ back)
stands_in f others [] b h = absurd h
stands_in f others (x ∷ xs) b (inl is) = ([], map f xs ++ others, ap (λ (k : ℕ). f k ∷ (map f xs ++ others)) (sym is))
stands_in f others (x ∷ xs) b (inr h) = let r = stands_in f others xs b h in (f x ∷ r.0, r.1, ap (λ l. f x ∷ l) r.2)

first_in : (f : ℕ → List ℕ) (others : List (List ℕ)) (x : ℕ) (xs : List ℕ) (a b : ℕ) → a ≡ x → Has xs b → StandsBefore (map f (x ∷ xs) ++ others) (f a) (f b)
first_in f others x xs a b is h =
    let r = stands_in f others xs b h in
    record { front = []; mid = r.0; back = r.1; are = ap (λ l. f x ∷ l) r.2 ∙ ap (λ (k : ℕ). f k ∷ (r.0 ++ f b ∷ r.1)) (sym is) }

before_in : (f : ℕ → List ℕ) (others : List (List ℕ)) (xs : List ℕ) (a b : ℕ) → AreRising xs → Has xs a → Has xs b → a < b → StandsBefore (map f xs ++ others) (f a) (f b)
before_in f others [] a b up h k less = absurd h
before_in f others (x ∷ xs) a b up (inl is) (inl same) less = absurd (omega (arith, is, same, less))
before_in f others (x ∷ xs) a b up (inl is) (inr k) less = first_in f others x xs a b is k
before_in f others (x ∷ xs) a b up (inr h) (inl same) less = let above = up.0 a h in absurd (omega (arith, above, same, less))
before_in f others (x ∷ xs) a b up (inr h) (inr k) less =
    let r = before_in f others xs a b up.1 h k less in
    record { front = f x ∷ r.front; mid = r.mid; back = r.back; are = ap (λ l. f x ∷ l) r.are }

-- ---- owners

up_to : (a j : ℕ) (o : TypeOwner) → interface_of o ≡ Some j → IsUpTo a o → j ≤ a
up_to a j (belongs.World w) of up = absurd up
up_to a j (belongs.Interface i) of up = let same : i ≡ j = cc in subst (λ (k : ℕ). k ≤ a) same up
up_to a j belongs.None of up = absurd cc

made_of_needed : (l : Linking) (i x : ℕ) → IsTypeNeeded l i → Reaches (IsMadeOf (types_of l)) i x → IsTypeNeeded l x
made_of_needed l i x n reaches = record { function = n.function; linked = n.linked; start = n.start; starts = n.starts; reaches = reaches_then (IsMadeOf (types_of l)) n.start n.reaches.0 i x n.reaches.1 reaches }

pub used_stand_before : TypesOfItemsUseEarlier → UsedStandBefore
used_stand_before earlier l world bytes encoded own j i x of c its needed reaches theirs another =
    let order = c.2.right.imports.order in
    let upward = subst TypesUseEarlier (sym of.names_are.types_are) (earlier (items_of of.tables) of.whole.whole) in
    let up = up_to own j theirs.0.owner theirs.2 (upward i own its x theirs.0 reaches theirs.1) in
    let less : j < own = omega (arith, up, another) in
    let name : ℕ → List ℕ = λ k. get_or c.2.right.names k [] in
    let r = before_in name order.others order.interfaces j own order.rising (order.all j x theirs (made_of_needed l i x needed reaches)) (order.all own i its needed) less in
    record { front = r.front; mid = r.mid; back = r.back; are = order.are ∙ r.are }
