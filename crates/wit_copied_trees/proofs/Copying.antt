-- Copies of a world's types, one behind the other.
use Rattle.std.proofs.Common.{◌≡◌, ℕ, ◌<◌, ◌+◌, Bool, true, false, List, [], ◌∷◌, ◌++◌, inl, inr, Some, refl, sym, subst, ap, ◌∙◌, arith, length, length-append, append_assoc}
use Rattle.std.proofs.lemmas.List.{append-nil}
use Rattle.std.proofs.lemmas.Option.{same_Some, slice_get_within}
use Rattle.std.specs.Prelude.{slice_get}
use Rattle.wit_arena.specs.Passed.wit_types-declared-kind-Type-TheVariants as ref
use Rattle.wit_arena.specs.Passed.wit_types-declared-interface-TypeDef.{TypeDef}
use Rattle.wit_arena.specs.Passed.wit_types-declared-world-IncludeName.{IncludeName}
use Rattle.wit_arena.specs.Passed.wit_types-declared-world-World.{World}
use Rattle.wit_arena.specs.Passed.wit_order-Order.{Has}
use Rattle.wit_includes.specs.Passed.wit_reach-Paths.{AreRising}
use Rattle.wit_includes.specs.Passed.wit_reach-Ids.{kind_ids}
use Rattle.wit_includes.proofs.Passed.wit_reach-Ends.{reaches_more}
use Rattle.wit_includes.proofs.Passed.wit_reach-Lists.{has_append}
use Rattle.wit_includes.proofs.Passed.wit_reach-Local.{stays_local}
use Rattle.wit_includes.specs.Passed.wit_reach-Types.{IsLocalAt, IsMadeOf, UsesLocal, is_local}
use Rattle.wit_includes.specs.Passed.wit_copies-Same.{text_of}
use Rattle.wit_includes.specs.Passed.wit_copies-Copies as copies
use Rattle.wit_includes.specs.Passed.wit_copies-Copies.{Copies, goes, IsCopiedDef, AreCopied}
use Rattle.wit_includes.specs.Included as brings
use Rattle.wit_includes.specs.Included.{copies_behind, IsRenamedDef, AreRenamedDefs}
use Rattle.wit_arena.specs.Tree.{Name, Owner, Tree}
use Rattle.wit_arena.specs.Unfold.{Owners, flat, ref_tree, def_tree, trees, IsWhole}
use Rattle.wit_arena.specs.Standing.{HasTree}
use Rattle.wit_arena.proofs.Lists.{get_kept, get_more}
use Rattle.wit_arena.proofs.Unfolding.{flat_some, ref_kept, added, def_at, whole_more}
use Rattle.wit_copied_trees.specs.Renamed.{IsRenamedTree}
use Rattle.wit_copied_trees.specs.Law.{AreIncludedBehind, IncludedTypesStandForTheSame}
use Rattle.wit_copied_trees.proofs.Members.{has_place, get_there, stands_before, goes_own, goes_else}
use Rattle.wit_copied_trees.proofs.Backward.{trees_length, whole_backward}
use Rattle.wit_copied_trees.proofs.Renaming.{Gives}
use Rattle.wit_copied_trees.proofs.Named.{copy_follows, stays_elsewhere}

-- ---- a world's types

module _ (names : List IncludeName) (owners : Owners) (given : Owner → Name → Tree) (from into : ℕ) (w v : Owner) (world : World) (types : List TypeDef) (own : List ℕ) (new : List TypeDef)
    (b : AreIncludedBehind names owners given from into w v world types own new)
  where
    abbrev Is : Tree → Tree → Type 0
    Is = IsRenamedTree names w v

    abbrev c : Copies
    c = copies_behind types own

    own_local : (i : ℕ) → Has own i → IsLocalAt from types i
    own_local i h = (let o = b.are_own.only i h in stays_local from types o.0 o.2.0 i o.1.1 o.2.1)

    own_closed : (i j : ℕ) → Has own i → IsMadeOf types i j → IsLocalAt from types j → Has own j
    own_closed i j h made local =
        let o = b.are_own.only i h in
        b.are_own.all j o.0 o.1 (reaches_more (UsesLocal from types) o.0 i j o.2 (made, local))

    one_def : (i : ℕ) (d e : TypeDef) → slice_get types i ≡ Some d → slice_get types i ≡ Some e → d ≡ e
    one_def i d e p q = same_Some d e (sym p ∙ q)

    abbrev Stand : List ℕ → List TypeDef → Type 0
    Stand is es = (k i : ℕ) (t : Tree) → slice_get is k ≡ Some i → HasTree owners given types i t → Gives Is t (ref_tree (trees owners given (types ++ es)) (ref.Id (length types + k)))

    -- what has a tree has one where it is found, if it is one of those that were copied or belongs elsewhere
    pub follows_where : (is rest : List ℕ) (es : List TypeDef) → is ++ rest ≡ own → Stand is es → (j : ℕ) (t : Tree) → (IsLocalAt from types j → Has is j) → flat (slice_get (trees owners given types) j) ≡ Some t
        → Gives Is t (flat (slice_get (trees owners given (types ++ es)) (goes c j)))
    follows_where is rest es split stand j t there h =
        let n : length (trees owners given types) ≡ 0 + length types = trees_length owners given [] types in
        let l : j < length (trees owners given types) = slice_get_within (trees owners given types) j (Some t) (flat_some (slice_get (trees owners given types) j) t h) in
        let d = get_there types j (omega (arith, n, l)) in
        by d.0 d.1 (is_local from d.0.owner) refl
      where
        by : (d : TypeDef) → slice_get types j ≡ Some d → (x : Bool) → is_local from d.owner ≡ x → Gives Is t (flat (slice_get (trees owners given (types ++ es)) (goes c j)))
        by d at true local =
            let p = has_place is j (there (d, at, local)) in
            let q : slice_get own p.0 ≡ Some j = subst (λ (xs : List ℕ). slice_get xs p.0 ≡ Some j) split (get_kept is rest p.0 j p.1) in
            subst (λ (m : ℕ). Gives Is t (flat (slice_get (trees owners given (types ++ es)) m))) (sym (goes_own types own p.0 j b.are_own.rising q)) (stand p.0 j t p.1 h)
        by d at false far =
            let isnt : Has own j → ⊥ = λ (k : Has own j). (let o = own_local j k in let e = one_def j o.0 d o.1 at in let yes : is_local from d.owner ≡ true = subst (λ (z : TypeDef). is_local from z.owner ≡ true) e o.2 in cc) in
            let stood = def_at owners given types j d b.whole at in
            let same : stood.0 ≡ t = same_Some stood.0 t (sym stood.1 ∙ h) in
            let keeps : Is t t = subst (λ (z : Tree). Is z z) same (stays_elsewhere names owners given from w v (trees owners given types) d.name d.owner d.kind stood.0 (λ u e. b.apart d.owner u far e) far (b.known j d at) stood.2) in
            subst (λ (m : ℕ). Gives Is t (flat (slice_get (trees owners given (types ++ es)) m))) (sym (goes_else types own j isnt))
            (t, keeps, ref_kept owners given types es (ref.Id j) t h)

    -- what holds of those that were copied so far
    record SoFar (is : List ℕ) (es : List TypeDef) : Type 0 where
      so_many : length es ≡ length is
      whole : IsWhole owners given (types ++ es)
      stand : Stand is es

    none_yet : SoFar [] []
    none_yet = record {
      so_many = refl;
      whole = subst (IsWhole owners given) (sym (append-nil types)) b.whole;
      stand = λ k i t p h. absurd cc;
    }

    module _ (is rest : List ℕ) (es : List TypeDef) (i : ℕ) (d e g : TypeDef) (split : is ++ i ∷ rest ≡ own) (so_far : SoFar is es) (at : slice_get types i ≡ Some d) (copied : IsCopiedDef c from into d e) (r : IsRenamedDef names into e g) where
      is_own : Has own i
      is_own = subst (λ (xs : List ℕ). Has xs i) split (has_append is (i ∷ rest) i (inl refl))

      local : is_local from d.owner ≡ true
      local = (let o = own_local i is_own in subst (λ (z : TypeDef). is_local from z.owner ≡ true) (one_def i o.0 d o.1 at) o.2)

      rising : AreRising (is ++ i ∷ rest)
      rising = subst AreRising (sym split) b.are_own.rising

      -- the types that it is made of were copied before it, or belong elsewhere
      follows : (j : ℕ) (t : Tree) → Has (kind_ids d.kind) j → flat (slice_get (trees owners given types) j) ≡ Some t → Gives Is t (flat (slice_get (trees owners given (types ++ es)) (goes c j)))
      follows j t made h =
          follows_where is (i ∷ rest) es split so_far.stand j t
          (λ near.
          let has : Has (is ++ i ∷ rest) j = subst (λ (xs : List ℕ). Has xs j) (sym split) (own_closed i j is_own (d, at, made) near) in
          stands_before is rest i j rising has (whole_backward owners given types b.whole i j (d, at, made)))
          h

      abbrev stood : (t : Tree) × (ref_tree (trees owners given types) (ref.Id i) ≡ Some t) × (def_tree owners given (trees owners given types) d ≡ Some t)
      stood = def_at owners given types i d b.whole at

      gives : Gives Is stood.0 (def_tree owners given (trees owners given (types ++ es)) g)
      gives =
          copy_follows names owners given from into w v b.from_is b.into_is (λ (j : ℕ). Has (kind_ids d.kind) j) (goes c) (trees owners given types) (trees owners given (types ++ es)) follows
          d.name d.owner d.kind copied.0.kind e g stood.0 local (b.known i d at) (λ j h. h)
          copied.1.kind copied.2.kind (ap text_of copied.2.name ∙ copied.1.name) copied.2.owner_is r stood.2

      behind : (Q : List TypeDef → Type 0) → Q ((types ++ es) ++ g ∷ []) → Q (types ++ (es ++ g ∷ []))
      behind Q h = subst Q (append_assoc types es (g ∷ [])) h

      one_more : SoFar (is ++ i ∷ []) (es ++ g ∷ [])
      one_more =
          let n : length (types ++ es) ≡ length types + length es = length-append types es in
          let m : length (es ++ g ∷ []) ≡ length es + 1 = length-append es (g ∷ []) in
          let o : length (is ++ i ∷ []) ≡ length is + 1 = length-append is (i ∷ []) in
          let before = so_far.so_many in
          record {
            so_many = omega (arith, m, o, before);
            whole = behind (IsWhole owners given) (whole_more owners given (types ++ es) g gives.0 so_far.whole gives.2);
            stand = λ k j t p h. behind (λ (ds : List TypeDef). Gives Is t (ref_tree (trees owners given ds) (ref.Id (length types + k)))) (elim (get_more is i j k p) as (λ _. Gives Is t (ref_tree (trees owners given ((types ++ es) ++ g ∷ [])) (ref.Id (length types + k)))) [
              | inl was ↦ (let x = so_far.stand k j t was h in (x.0, x.1, ref_kept owners given (types ++ es) (g ∷ []) (ref.Id (length types + k)) x.0 x.2))
              | inr last ↦
                  let same : stood.0 ≡ t = same_Some stood.0 t (sym stood.1 ∙ subst (λ (z : ℕ). HasTree owners given types z t) last.1 h) in
                  let k_is : k ≡ length is = last.0 in
                  let place : length (types ++ es) ≡ length types + k = omega (arith, n, before, k_is) in (
                    gives.0,
                    subst (λ (z : Tree). Is z gives.0) same gives.1,
                    subst (λ (z : ℕ). ref_tree (trees owners given ((types ++ es) ++ g ∷ [])) (ref.Id z) ≡ Some gives.0) place (added owners given (types ++ es) g gives.0 gives.2),
                  )
            ]);
          }

    all_so_far : (is : List ℕ) (es : List TypeDef) (js : List ℕ) (cs fs : List TypeDef) → is ++ js ≡ own → SoFar is es → AreCopied c from into types js cs → AreRenamedDefs names into cs fs → SoFar own (es ++ fs)
    all_so_far is es _ _ _ split so_far copies.no_types brings.no_types =
        subst (SoFar own) (sym (append-nil es)) (subst (λ (xs : List ℕ). SoFar xs es) (sym (append-nil is) ∙ split) so_far)
    all_so_far is es _ _ _ split so_far (copies.one_more i d e js cs at m more) (brings.one_more _ g _ fs r rest) =
        subst (SoFar own) (append_assoc es (g ∷ []) fs)
        (all_so_far (is ++ i ∷ []) (es ++ g ∷ []) js cs fs (append_assoc is (i ∷ []) js ∙ split) (one_more is js es i d e g split so_far at m r) more rest)

pub included_types_stand : IncludedTypesStandForTheSame
included_types_stand names owners given from into w v world types own new b =
    let s = all_so_far names owners given from into w v world types own new b [] [] own b.included.0 new refl (none_yet names owners given from into w v world types own new b) b.included.1 b.included.2 in
    (s.whole, s.stand)
