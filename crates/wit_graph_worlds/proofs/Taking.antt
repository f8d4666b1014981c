-- Worlds that come to a graph take types by use.
use Rattle.std.proofs.Common.{◌≡◌, ℕ, ◌+◌, ◌<◌, List, [], ◌∷◌, ◌++◌, ◌⊎◌, inl, inr, Some, sym, subst, ap, ◌∙◌, arith, length, length-append}
use Rattle.std.proofs.lemmas.List.{append-nil}
use Rattle.std.specs.Prelude.{slice_get}
use Rattle.wit_types.specs.Passed.wit_order-Order.{Has}
use Rattle.wit_types.specs.Passed.wit_order-Places.{Rows}
use Rattle.wit_types.specs.declared.interface.Interface.{Interface}
use Rattle.wit_types.specs.declared.interface.TypeDef.{TypeDef}
use Rattle.wit_types.specs.declared.interface.TypeOwner.TheVariants as belongs
use Rattle.wit_types.specs.declared.world.World.{World}
use Rattle.wit_types.specs.declared.world.WorldInclude.{WorldInclude}
use Rattle.wit_uses.proofs.Passed.wit_arena-Lists.{get_kept, get_last, get_more}
use Rattle.wit_uses.specs.Passed.wit_plans-declared-moves-MovedWorld.{MovedWorld}
use Rattle.wit_reach.specs.Ids.{item_ids}
use Rattle.wit_reach.specs.Lists.{item_type, type_items}
use Rattle.wit_reach.specs.Types.{AreTypesBackward, IsOfItem}
use Rattle.wit_uses.specs.Passed.wit_copied_trees-There.{IncludedTypesAreBackward, IncludedSidesAreThere}
use Rattle.wit_uses.specs.Passed.wit_joined-Joined.{Includes, includes_none, includes_one, own_state}
use Rattle.wit_uses.specs.Passed.wit_joined-Joined as joined
use Rattle.wit_uses.specs.Passed.wit_placed-There.{IsOwnThere}
use Rattle.wit_uses.proofs.Passed.wit_placed-Members.{has_at, has_get}
use Rattle.wit_uses.specs.Included.{BroughtTakesByUse}
use Rattle.wit_uses.specs.Moved.{moved_types, IsOfMoved}
use Rattle.wit_uses.specs.Uses.{IsOwn, IsUse, TakesByUse, WorldsTakeByUse}
use Rattle.wit_uses.proofs.Growing.{takes_more}
use Rattle.wit_uses.proofs.Joining.{IsSoFar, includes_so_far, united_was, joined_take}
use Rattle.wit_graph_worlds.specs.Added.{IsPut, IsAdded, AreAdded, none_added, one_added}
use Rattle.wit_graph_worlds.specs.Sound.{AreSound, IsWorldThere}
use Rattle.wit_graph_worlds.specs.Uses.{SameWorldTakesByUse, AddedWorldsTakeByUse}
use Rattle.wit_graph_worlds.specs.Worlds.{State}
use Rattle.wit_graph_worlds.proofs.Adding.{own_grown, grown_more, joined_there, sound_more}
use Rattle.wit_graph_worlds.proofs.Alike.{items_alike, type_alike, side_alike}

-- ---- a world that says the same

pub same_takes : SameWorldTakesByUse
same_takes types by w v is a = record {
  starts = λ s d h at. a.starts s d (was s h) at;
  parts = λ s k i d e h reach at into has at_e. elim (a.parts s k i d e (was s h) reach at into has at_e) as (λ _. IsOwn by e.owner ⊎ IsUse (Has (type_items v.imports.entries)) k i d e) [
    | inl own ↦ inl own
    | inr u ↦ inr (record { is_listed = listed k u.is_listed; kind_is = u.kind_is; interface = u.interface; of = u.of })
  ];
  lists = λ s k d h reach at its. listed k (a.lists s k d (was s h) reach at its);
}
  where
    listed : (k : ℕ) → Has (type_items w.imports.entries) k → Has (type_items v.imports.entries) k
    listed k h = subst (λ (l : List ℕ). Has l k) (sym (items_alike item_type type_alike w.imports.entries v.imports.entries is.imports)) h

    was : (s : ℕ) → IsOfItem v s → IsOfItem w s
    was s (inl h) = inl (subst (λ (l : List ℕ). Has l s) (side_alike w.imports.entries v.imports.entries is.imports) h)
    was s (inr h) = inr (subst (λ (l : List ℕ). Has l s) (side_alike w.exports.entries v.exports.entries is.exports) h)

-- ---- types that come with what is included

types_grown : (worlds : List World) (id : ℕ) (ns : List WorldInclude) (s t : joined.State) → Includes worlds id ns s t → (more : List TypeDef) × (t.types ≡ s.types ++ more)
types_grown worlds id _ s _ (includes_none _) = ([], sym (append-nil s.types))
types_grown worlds id _ s u (includes_one ns n _ t _ before at) =
    grown_more s.types t.types u.types (types_grown worlds id ns s t before) (at.1.types.items, ap (λ (x : joined.State). x.types) at.4)

-- ---- worlds behind those that are there

module _ (backward : IncludedTypesAreBackward) (sides_there : IncludedSidesAreThere) (brought_takes : BroughtTakesByUse) (n : ℕ) (interfaces : List Interface) (uses : Rows) (owner : ℕ) where
  -- from one state to another all is sound, and worlds take types by use
  pub record Goes (s t : State) (so_many : ℕ) : Type 0 where
    pub sound : AreSound n t.types t.worlds
    pub take : WorldsTakeByUse t.types t.worlds.listed
    pub grown : (more : List TypeDef) × (t.types ≡ s.types ++ more)
    pub many : length t.worlds.listed ≡ length s.worlds.listed + so_many

  -- a world before what it includes is there
  pub begins : (m : MovedWorld) (s : State) (sound : AreSound n s.types s.worlds) → IsOwnThere s.types n m → WorldsTakeByUse s.types s.worlds.listed → TakesByUse s.types (belongs.World (length s.worlds.listed)) (Has (moved_types m)) (IsOfMoved m)
      → IsSoFar backward sides_there brought_takes s.worlds.listed sound.keys (length s.worlds.listed) (own_state s.types m)
  begins m s sound own take m_takes = record { back = sound.backward; imports = own.imports.types_are; exports = own.exports.types_are; keys = own.keys; there = sound.there; earlier = take; takes = m_takes }

  one_goes : (m : MovedWorld) (s t : State) → IsAdded interfaces uses owner m s t → AreSound n s.types s.worlds → IsOwnThere s.types n m → WorldsTakeByUse s.types s.worlds.listed
      → TakesByUse s.types (belongs.World (length s.worlds.listed)) (Has (moved_types m)) (IsOfMoved m) → Goes s t 1
  one_goes m s t a sound own take m_takes =
      let worlds = s.worlds.listed in
      let sides = a.is_joined.sides in
      let far = includes_so_far backward sides_there brought_takes worlds sound.keys (length worlds) m.includes.items (own_state s.types m) sides.joined sides.includes (begins m s sound own take m_takes) in
      let w = a.joined in
      let named = joined_there n owner s.types t.types s.worlds m w sound own a.is_joined in
      let one : IsWorldThere n sides.joined.types w =
      record {
        sides = (
          λ i h. far.imports i (united_was item_ids sides.joined.imports w.imports.entries sides.imports_are.entries i h),
          λ i h. far.exports i (united_was item_ids sides.joined.exports w.exports.entries sides.exports_are.entries i h),
        );
        interfaces = named.interfaces;
        keys = named.keys;
      }
      in
      let more = types_grown worlds (length worlds) m.includes.items (own_state s.types m) sides.joined sides.includes in
      let grown : t.types ≡ s.types ++ more.0 = sides.types_are ∙ more.1 in
      let put : IsPut interfaces uses t.types w s.worlds t.worlds = record { listed = a.listed; elaborated = a.elaborated; is_listed = a.is_listed; is_elaborated = a.is_elaborated; listed_are = a.listed_are; elaborated_are = a.elaborated_are } in
      let all = joined_take backward sides_there brought_takes worlds owner m s.types t.types w sound.backward sound.there sound.keys (record { imports = own.imports.types_are; exports = own.exports.types_are; keys = own.keys }) take m_takes a.is_joined in
      record {
        sound = sound_more n interfaces uses s.types more.0 t.types s.worlds t.worlds w grown sound (subst AreTypesBackward (sym sides.types_are) far.back) named.owners
            (subst (λ (ts : List TypeDef). IsWorldThere n ts w) (sym sides.types_are) one) put;
        take = λ i v at. elim (get_more worlds a.listed v i (subst (λ (ws : List World). slice_get ws i ≡ Some v) a.listed_are at)) as (λ _. TakesByUse t.types (belongs.World i) (Has (type_items v.imports.entries)) (IsOfItem v)) [
          | inl was ↦ all.earlier i v was
          | inr last ↦ subst (λ (x : World). TakesByUse t.types (belongs.World i) (Has (type_items x.imports.entries)) (IsOfItem x)) (sym last.1)
              (subst (λ (k : ℕ). TakesByUse t.types (belongs.World k) (Has (type_items a.listed.imports.entries)) (IsOfItem a.listed)) (sym last.0)
              (same_takes t.types (belongs.World (length worlds)) w a.listed a.is_listed all.last))
        ];
        grown = (more.0, grown);
        many = ap length a.listed_are ∙ length-append worlds (a.listed ∷ []);
      }

  moved_there : (types : List TypeDef) (m : MovedWorld) → IsOwnThere types n m → (i : ℕ) → IsOfMoved m i → i < length types
  moved_there types m own i (inl h) = own.imports.types_are i h
  moved_there types m own i (inr h) = own.exports.types_are i h

  -- it still takes types by use when others are there
  m_takes : (ms : List MovedWorld) (m : MovedWorld) (s t : State) → AreSound n s.types s.worlds → IsOwnThere s.types n m → Goes s t (length ms) → TakesByUse s.types (belongs.World (length s.worlds.listed + length ms)) (Has (moved_types m)) (IsOfMoved m)
      → TakesByUse t.types (belongs.World (length t.worlds.listed)) (Has (moved_types m)) (IsOfMoved m)
  m_takes ms m s t sound own r takes =
      let by_was = belongs.World (length s.worlds.listed + length ms) in
      subst (λ (k : ℕ). TakesByUse t.types (belongs.World k) (Has (moved_types m)) (IsOfMoved m)) (sym r.many)
      (subst (λ (ts : List TypeDef). TakesByUse ts by_was (Has (moved_types m)) (IsOfMoved m)) (sym r.grown.1) (takes_more s.types r.grown.0 sound.backward by_was (Has (moved_types m)) (IsOfMoved m) (moved_there s.types m own) takes))

  pub all_go : (ms : List MovedWorld) (s t : State) → AreAdded interfaces uses owner ms s t → AreSound n s.types s.worlds → ((m : MovedWorld) → Has ms m → IsOwnThere s.types n m) → WorldsTakeByUse s.types s.worlds.listed
      → ((k : ℕ) (m : MovedWorld) → slice_get ms k ≡ Some m → TakesByUse s.types (belongs.World (length s.worlds.listed + k)) (Has (moved_types m)) (IsOfMoved m)) → Goes s t (length ms)
  all_go _ s _ (none_added _) sound own take takes = record { sound = sound; take = take; grown = ([], sym (append-nil s.types)); many = omega arith }
  all_go _ s u (one_added ms m _ t _ before last) sound own take takes =
      let r = all_go ms s t before sound (λ x h. own x (let p = has_at ms x h in has_get (ms ++ m ∷ []) p.0 x (get_kept ms (m ∷ []) p.0 x p.1))) take (λ k x at. takes k x (get_kept ms (m ∷ []) k x at)) in
      let m_own = own m (has_get (ms ++ m ∷ []) (length ms) m (get_last ms m)) in
      let next = one_goes m t u last r.sound (own_grown s.types t.types r.grown.0 n m r.grown.1 m_own) r.take (m_takes ms m s t sound m_own r (takes (length ms) m (get_last ms m))) in
      let a = r.many in
      let b = next.many in
      let c : length (ms ++ m ∷ []) ≡ length ms + 1 = length-append ms (m ∷ []) in
      record { sound = next.sound; take = next.take; grown = grown_more s.types t.types u.types r.grown next.grown; many = omega (arith, a, b, c) }

  -- what each of them keeps, of the worlds and of those that come, is so of all in the end
  pub all_keep : (P : State → Type 0) (M : List TypeDef → MovedWorld → Type 0)
      → ((m : MovedWorld) (s t : State) → IsAdded interfaces uses owner m s t → AreSound n s.types s.worlds → IsOwnThere s.types n m → WorldsTakeByUse s.types s.worlds.listed
      → TakesByUse s.types (belongs.World (length s.worlds.listed)) (Has (moved_types m)) (IsOfMoved m) → P s → M s.types m → P t)
      → ((types more : List TypeDef) (m : MovedWorld) → AreTypesBackward types → IsOwnThere types n m → M types m → M (types ++ more) m) → (ms : List MovedWorld) (s t : State) → AreAdded interfaces uses owner ms s t → AreSound n s.types s.worlds
      → ((m : MovedWorld) → Has ms m → IsOwnThere s.types n m) → WorldsTakeByUse s.types s.worlds.listed
      → ((k : ℕ) (m : MovedWorld) → slice_get ms k ≡ Some m → TakesByUse s.types (belongs.World (length s.worlds.listed + k)) (Has (moved_types m)) (IsOfMoved m)) → P s → ((m : MovedWorld) → Has ms m → M s.types m) → P t
  all_keep P M step kept _ s _ (none_added _) sound own take takes first each = first
  all_keep P M step kept _ s u (one_added ms m _ t _ before last) sound own take takes first each =
      let was_has = λ (x : MovedWorld) (h : Has ms x). (let p = has_at ms x h in has_get (ms ++ m ∷ []) p.0 x (get_kept ms (m ∷ []) p.0 x p.1)) in
      let m_has = has_get (ms ++ m ∷ []) (length ms) m (get_last ms m) in
      let r = all_go ms s t before sound (λ x h. own x (was_has x h)) take (λ k x at. takes k x (get_kept ms (m ∷ []) k x at)) in
      step m t u last r.sound (own_grown s.types t.types r.grown.0 n m r.grown.1 (own m m_has)) r.take (m_takes ms m s t sound (own m m_has) r (takes (length ms) m (get_last ms m)))
      (all_keep P M step kept ms s t before sound (λ x h. own x (was_has x h)) take (λ k x at. takes k x (get_kept ms (m ∷ []) k x at)) first (λ x h. each x (was_has x h)))
      (subst (λ (ts : List TypeDef). M ts m) (sym r.grown.1) (kept s.types r.grown.0 m sound.backward (own m m_has) (each m m_has)))

pub added_take : IncludedTypesAreBackward → IncludedSidesAreThere → BroughtTakesByUse → AddedWorldsTakeByUse
added_take backward sides_there brought_takes n interfaces uses owner ms s t added sound own take takes =
    (all_go backward sides_there brought_takes n interfaces uses owner ms s t added sound own take takes).take
