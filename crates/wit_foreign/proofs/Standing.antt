-- Each type that is used stands for what is given for its name.
use Rattle.std.proofs.Common.{◌≡◌, ℕ, ◌+◌, ◌<◌, ◌≤◌, zero, suc, List, [], ◌∷◌, ◌++◌, ◌⊎◌, inl, inr, length, Some, None, take, refl, sym, subst, ap, ◌∙◌, arith}
use Rattle.std.proofs.lemmas.Option.{same_Some, slice_get_within}
use Rattle.std.specs.Prelude.{slice_get}
use Rattle.wit_words.specs.declared.source_map.Span.{Span}
use Rattle.wit_types.specs.declared.kind.«Type».TheVariants.{Id}
use Rattle.wit_types.specs.declared.kind.TypeDefKind.TheVariants as kind
use Rattle.wit_types.specs.declared.interface.TypeDef.{TypeDef}
use Rattle.wit_lookups.proofs.Passed.wit_rules-Places.{taken}
use Rattle.wit_package_types.specs.Passed.wit_arena-Tree.{Name, in_interface, Owner, Tree}
use Rattle.wit_package_types.specs.Passed.wit_arena-Meaning.{Has}
use Rattle.wit_package_types.specs.Passed.wit_arena-Unfold.{Owners, owner_of, IsWhole}
use Rattle.wit_package_types.specs.Passed.wit_arena-Standing.{HasTree, Grows, IsDefinedAs, StandForTheirMeaning}
use Rattle.wit_package_types.proofs.Passed.wit_arena-Growing.{ref_grown}
use Rattle.wit_package_types.proofs.Passed.wit_arena-Meanings.{types_stand_for_their_meaning}
use Rattle.wit_package_types.specs.Foreign.{ForeignName}
use Rattle.wit_foreign.specs.Needs.{NeedTree}
use Rattle.wit_foreign.specs.Items.{Items}
use Rattle.wit_foreign.specs.Unknown.{IsEntryAt, AreUnknown, LeadToOwners, UnknownTypesStand}
use Rattle.wit_foreign.proofs.Gathering.{take_whole}

-- there is an element at each place
pub got_at : {X : Type 0} (xs : List X) (k : ℕ) → k < length xs → (x : X) × (slice_get xs k ≡ Some x)
got_at [] k l = absurd (omega arith)
got_at (x ∷ xs) zero l = (x, refl)
got_at (x ∷ xs) (suc k) l = got_at xs k (omega arith)

pub length_taken : {X : Type 0} (xs : List X) (k : ℕ) → k ≤ length xs → length (take k xs) ≡ k
length_taken [] zero l = refl
length_taken [] (suc k) l = absurd (omega arith)
length_taken (x ∷ xs) zero l = refl
length_taken (x ∷ xs) (suc k) l = (let h = length_taken xs k (omega arith) in omega (arith, h))

less_or_last : (j k : ℕ) → j < k + 1 → (j < k) ⊎ (j ≡ k)
less_or_last zero zero l = inr refl
less_or_last zero (suc k) l = inl (omega arith)
less_or_last (suc j) zero l = absurd (omega arith)
less_or_last (suc j) (suc k) l =
    elim (less_or_last j k (omega (arith, l))) as (λ _. (suc j < suc k) ⊎ (suc j ≡ suc k)) [
      | inl less ↦ inl (omega (arith, less))
      | inr same ↦ inr (ap suc same)
    ]

module _ (given : Owner → Name → Tree) (owners : Owners) (items : Items) (needs : List NeedTree) (a : List TypeDef) (es : List (ForeignName × ℕ)) (ss : List Span) (leads : LeadToOwners owners items) (are : AreUnknown items needs a es ss) where
  law : StandForTheirMeaning (record { namespace = []; name = []; version = None }) [] given owners (in_interface []) []
  law = types_stand_for_their_meaning (record { namespace = []; name = []; version = None }) [] given owners (in_interface []) []

  -- of the types up to a place
  abbrev StandTo : ℕ → Type 0
  StandTo k = IsWhole owners given (take k a) × ((j : ℕ) (e : ForeignName × ℕ) → j < k → slice_get es j ≡ Some e → HasTree owners given (take k a) j (given e.0.0 e.0.1))

  module _ (k : ℕ) (e : ForeignName × ℕ) (at : slice_get es k ≡ Some e) (so_far : StandTo k) where
    entry : IsEntryAt items needs a ss e k
    entry = are.each k e at

    defined : IsDefinedAs owners e.0.0 e.0.1 kind.Unknown entry.def
    defined =
        let entry_is = entry.is in
        let u = entry.use_is in
        record {
          name = entry_is.name ∙ ap (λ (n : ForeignName). Some n.1) u.is;
          kind = entry_is.kind;
          owner = ap (owner_of owners) entry_is.owner ∙ leads e.0.0 entry.interface entry.item;
        }

    more : take (k + 1) a ≡ take k a ++ entry.def ∷ []
    more = taken a k entry.def entry.type_at

    so_many : length (take k a) ≡ k
    so_many = (let l : k < length a = slice_get_within a k entry.def entry.type_at in length_taken a k (omega (arith, l)))

    put : Grows owners given (take k a) (take k a ++ entry.def ∷ []) × HasTree owners given (take k a ++ entry.def ∷ []) (length (take k a)) (given e.0.0 e.0.1)
    put = law.unknown (take k a) e.0.0 e.0.1 entry.def so_far.0 defined

    here : HasTree owners given (take k a ++ entry.def ∷ []) k (given e.0.0 e.0.1)
    here = subst (λ (j : ℕ). HasTree owners given (take k a ++ entry.def ∷ []) j (given e.0.0 e.0.1)) so_many put.1

    each_stands : (j : ℕ) (f : ForeignName × ℕ) → j < k + 1 → slice_get es j ≡ Some f → HasTree owners given (take k a ++ entry.def ∷ []) j (given f.0.0 f.0.1)
    each_stands j f less at_j =
        elim (less_or_last j k less) as (λ _. HasTree owners given (take k a ++ entry.def ∷ []) j (given f.0.0 f.0.1)) [
          | inl before ↦ ref_grown owners given (take k a) (take k a ++ entry.def ∷ []) (Id j) (given f.0.0 f.0.1) put.0 (so_far.1 j f before at_j)
          | inr last ↦
              let same : e ≡ f = same_Some e f (sym at ∙ subst (λ (z : ℕ). slice_get es z ≡ Some f) last at_j) in
              subst (λ (z : ℕ). HasTree owners given (take k a ++ entry.def ∷ []) z (given f.0.0 f.0.1)) (sym last)
              (subst (λ (z : ForeignName × ℕ). HasTree owners given (take k a ++ entry.def ∷ []) k (given z.0.0 z.0.1)) same here)
        ]

    one_more : StandTo (k + 1)
    one_more = (
      subst (IsWhole owners given) (sym more) (put.0).whole,
      λ j f less at_j. subst (λ (b : List TypeDef). HasTree owners given b j (given f.0.0 f.0.1)) (sym more) (each_stands j f less at_j),
    )

  stand_to : (k : ℕ) → k ≤ length es → StandTo k
  stand_to zero l = (law.none.0, λ j e less. absurd (omega (arith, less)))
  stand_to (suc k) l =
      let before = stand_to k (omega (arith, l)) in
      let e = got_at es k (omega (arith, l)) in
      let up : k + 1 ≡ suc k = omega arith in
      subst StandTo up (one_more k e.0 e.1 before)

  stand : IsWhole owners given a × ((w : Owner) (y : Name) (j : ℕ) → Has es ((w, y), j) → HasTree owners given a j (given w y))
  stand =
      let all = stand_to (length es) (omega arith) in
      let whole : take (length es) a ≡ a = ap (λ (k : ℕ). take k a) (sym are.so_many_types) ∙ take_whole a in (
        subst (IsWhole owners given) whole all.0,
        λ w y j has.
            let there : has.0 ≡ j = sym (are.each has.0 ((w, y), j) has.1).id_is in
            subst (λ (k : ℕ). HasTree owners given a k (given w y)) there
            (subst (λ (b : List TypeDef). HasTree owners given b has.0 (given w y)) whole (all.1 has.0 ((w, y), j) (slice_get_within es has.0 ((w, y), j) has.1) has.1)),
      )

pub unknown_types_stand : UnknownTypesStand
unknown_types_stand given owners items needs a es ss leads are = stand given owners items needs a es ss leads are
