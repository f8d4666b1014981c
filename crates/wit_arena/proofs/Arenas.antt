-- Arenas with their tables of shapes.
use Rattle.std.proofs.Common.{◌≡◌, ℕ, Bool, true, false, cond, List, [], ◌∷◌, ◌++◌, ◌⊎◌, inl, inr, length, Option, Some, None, refl, sym, subst, ap, ◌∙◌}
use Rattle.std.proofs.lemmas.Option.{same_Some}
use Rattle.std.specs.Prelude.{slice_get, IsSome, is_some}
use Rattle.std.specs.Map.{lookup}
use Rattle.wit_types.specs.Passed.wit_words-declared-source_map-Span.{Span}
use Rattle.wit_types.specs.declared.kind.«Type».{«Type» as Ref}
use Rattle.wit_types.specs.declared.interface.TypeDef.{TypeDef}
use Rattle.wit_arena.specs.declared.shape.Shape.{Shape}
use Rattle.wit_arena.specs.Shape.{ShapeTree, shape_of, shape_eq, kind_shape}
use Rattle.wit_arena.specs.Arena.{AreKnown, IsUnnamed, IsUnique, Interns, there, fresh, UnnamedTypesAreOne}
use Rattle.wit_arena.proofs.Lists.{get_kept, get_last, get_more}
use Rattle.wit_arena.proofs.Shapes.{shape_eq-Decides}

bool_cases : (b : Bool) → (b ≡ true) ⊎ (b ≡ false)
bool_cases true = inl refl
bool_cases false = inr refl

-- two tests of which each passes what the other does
same_test : (b c : Bool) → (b ≡ true → c ≡ true) → (c ≡ true → b ≡ true) → b ≡ c
same_test true c f g = sym (f refl)
same_test false true f g = g refl
same_test false false f g = refl

-- shapes that are made of the same pass the same tests
alike : (s q : Shape) → shape_of s ≡ shape_of q → (x : Shape) → shape_eq s x ≡ shape_eq q x
alike s q e x =
    same_test (shape_eq s x) (shape_eq q x)
    (λ h. (shape_eq-Decides q x).1 (sym e ∙ (shape_eq-Decides s x).0 h))
    (λ h. (shape_eq-Decides s x).1 (e ∙ (shape_eq-Decides q x).0 h))

pub lookup_alike : {V : Type 0} (entries : List (Shape × V)) (s q : Shape) → shape_of s ≡ shape_of q → lookup (shape_eq s) entries ≡ lookup (shape_eq q) entries
lookup_alike [] s q e = refl
lookup_alike {V} (x ∷ xs) s q e =
    ap (λ (b : Bool). cond b (Some x.1) (lookup (shape_eq s) xs)) (alike s q e x.0) ∙ ap (λ (o : Option V). cond (shape_eq q x.0) (Some x.1) o) (lookup_alike xs s q e)

-- nothing that has a name is without one
nameless_named : (d e : TypeDef) → IsSome d.name → e ≡ d → e.name ≡ None → ⊥
nameless_named d e some same none = let f : false ≡ true = sym (ap is_some (sym (ap (λ (z : TypeDef). z.name) same) ∙ none)) ∙ some in cc

module _ (a : List TypeDef) (known : Shape → Option ℕ) (h : AreKnown a known) where
  pub known_defined : (d : TypeDef) → IsSome d.name → AreKnown (a ++ d ∷ []) known
  known_defined d some = record {
    sound = λ s i e. (let r = h.sound s i e in (r.0, get_kept a (d ∷ []) i r.0 r.1, r.2));
    complete = λ i e at none. elim (get_more a d e i at) as (λ _. (s : Shape) × IsUnnamed (shape_of s) e × (known s ≡ Some i)) [
      | inl was ↦ h.complete i e was none
      | inr last ↦ absurd (nameless_named d e some last.1 none)
    ];
  }

  module _ (one : (s q : Shape) → shape_of s ≡ shape_of q → known s ≡ known q) where
    -- a shape that isn't known is of no type without a name
    pub none_of_shape : (s : Shape) → known s ≡ None → (j : ℕ) (d : TypeDef) → slice_get a j ≡ Some d → d.name ≡ None → kind_shape d.kind ≡ Some (shape_of s) → ⊥
    none_of_shape s none j d at unn same =
        let r = h.complete j d at unn in
        let e : shape_of r.0 ≡ shape_of s = same_Some (shape_of r.0) (shape_of s) (sym r.1.kind ∙ same) in
        let f : Some j ≡ None = sym r.2 ∙ one r.0 s e ∙ none in cc

    pub unique_known : IsUnique a
    unique_known i j d e k atd ate nd ne kd ke =
        let r = h.complete i d atd nd in
        let q = h.complete j e ate ne in
        let same : shape_of r.0 ≡ shape_of q.0 =
        same_Some (shape_of r.0) k (sym r.1.kind ∙ kd) ∙ sym (same_Some (shape_of q.0) k (sym q.1.kind ∙ ke)) in
        same_Some i j (sym r.2 ∙ one r.0 q.0 same ∙ q.2)

    pub known_fresh : (s : Shape) (d : TypeDef) (next : Shape → Option ℕ) → known s ≡ None → IsUnnamed (shape_of s) d
        → ((q : Shape) → next q ≡ cond (shape_eq s q) (Some (length a)) (known q)) → AreKnown (a ++ d ∷ []) next
    known_fresh s d next none unn is = record {
      sound = λ q i e. elim (bool_cases (shape_eq s q)) as (λ _. (z : TypeDef) × (slice_get (a ++ d ∷ []) i ≡ Some z) × IsUnnamed (shape_of q) z) [
        | inl t ↦ (let l : length a ≡ i = same_Some (length a) i (sym (ap (λ (b : Bool). cond b (Some (length a)) (known q)) t) ∙ sym (is q) ∙ e) in (
          d,
          subst (λ (j : ℕ). slice_get (a ++ d ∷ []) j ≡ Some d) l (get_last a d),
          subst (λ (k : ShapeTree). IsUnnamed k d) ((shape_eq-Decides s q).0 t) unn,
        ))
        | inr f ↦ let r = h.sound q i (sym (ap (λ (b : Bool). cond b (Some (length a)) (known q)) f) ∙ sym (is q) ∙ e) in (r.0, get_kept a (d ∷ []) i r.0 r.1, r.2)
      ];
      complete = λ i e at unne. elim (get_more a d e i at) as (λ _. (q : Shape) × IsUnnamed (shape_of q) e × (next q ≡ Some i)) [
        | inl was ↦ (let r = h.complete i e was unne in (
          r.0,
          r.1,
          is r.0 ∙ (elim (bool_cases (shape_eq s r.0)) as (λ _. cond (shape_eq s r.0) (Some (length a)) (known r.0) ≡ Some i) [
            | inl t ↦ absurd (let f : Some i ≡ None = sym r.2 ∙ sym (one s r.0 ((shape_eq-Decides s r.0).0 t)) ∙ none in cc)
            | inr f ↦ ap (λ (b : Bool). cond b (Some (length a)) (known r.0)) f ∙ r.2
          ]),
        ))
        | inr last ↦ (
          s,
          subst (IsUnnamed (shape_of s)) (sym last.1) unn,
          is s ∙ ap (λ (b : Bool). cond b (Some (length a)) (known s)) ((shape_eq-Decides s s).1 refl) ∙ ap (λ (n : ℕ). Some n) (sym last.0),
        )
      ];
    }

-- each way to add keeps types without a name apart
pub unique_defined : (a : List TypeDef) (d : TypeDef) → IsUnique a → IsSome d.name → IsUnique (a ++ d ∷ [])
unique_defined a d u some i j e f k ate atf ne nf se sf =
    elim (get_more a d e i ate) as (λ _. i ≡ j) [
      | inr last ↦ absurd (nameless_named d e some last.1 ne)
      | inl wase ↦ elim (get_more a d f j atf) as (λ _. i ≡ j) [
        | inr last ↦ absurd (nameless_named d f some last.1 nf)
        | inl wasf ↦ u i j e f k wase wasf ne nf se sf
      ]
    ]

pub unique_fresh : (a : List TypeDef) (k : ShapeTree) (d : TypeDef) → IsUnique a → IsUnnamed k d
    → ((j : ℕ) (e : TypeDef) → slice_get a j ≡ Some e → e.name ≡ None → kind_shape e.kind ≡ Some k → ⊥) → IsUnique (a ++ d ∷ [])
unique_fresh a k d u unn none i j e f s ate atf ne nf se sf =
    elim (get_more a d e i ate) as (λ _. i ≡ j) [
      | inr le ↦ elim (get_more a d f j atf) as (λ _. i ≡ j) [
        | inr lf ↦ le.0 ∙ sym lf.0
        | inl wasf ↦ absurd (none j f wasf nf (sf ∙ sym se ∙ ap (λ (z : TypeDef). kind_shape z.kind) le.1 ∙ unn.kind))
      ]
      | inl wase ↦ elim (get_more a d f j atf) as (λ _. i ≡ j) [
        | inr lf ↦ absurd (none i e wase ne (se ∙ sym sf ∙ ap (λ (z : TypeDef). kind_shape z.kind) lf.1 ∙ unn.kind))
        | inl wasf ↦ u i j e f s wase wasf ne nf se sf
      ]
    ]

unique_interned : (a b : List TypeDef) (k : ShapeTree) (s : Span) (r : Ref) → IsUnique a → Interns a k s b r → IsUnique b
unique_interned a b k s r u (there i d at unn same) = subst IsUnique (sym same) u
unique_interned a b k s r u (fresh d unn stands last none) = subst IsUnique (sym last) (unique_fresh a k d u unn none)

pub unnamed_types_are_one : UnnamedTypesAreOne
unnamed_types_are_one = record {
  none = λ i j d e k at. absurd (let f : None ≡ Some d = at in cc);
  interned = unique_interned;
  defined = unique_defined;
}
