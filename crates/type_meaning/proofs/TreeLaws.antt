-- Equality of trees is decided, and one replacement after the other is one.
use Rattle.std.proofs.Common.{◌≡◌, ℕ, List, [], ◌∷◌, Bool, true, ◌&&◌, Some, refl, sym, ap, ◌∙◌}
use Rattle.std.specs.Prelude.{slice_get, bytes_eq, ◌==◌}
use Rattle.std.specs.Bool.{Decides}
use Rattle.std.specs.Cmp.Lexicographic.{pointwise}
use Rattle.std.proofs.lemmas.Bool.{and_parts, and_from}
use Rattle.std.proofs.lemmas.Bool.Decides.{Decides-eqb}
use Rattle.std.proofs.lemmas.Slice.Eq.{slice_eq-Decides, bytes_eq-Decides}
use Rattle.std.proofs.lemmas.Option.{same_Some}
use Rattle.type_meaning.specs.Tree as trees
use Rattle.type_meaning.specs.Tree.{Kind, Form, Tree, Parts, named, resource, of, none, gap, part, kind_code, same_form, same_tree, same_parts, put, put_parts}

-- ---- codes tell kinds apart

abbrev all_kinds : List Kind
all_kinds =
    trees.bool ∷ trees.s8 ∷ trees.u8 ∷ trees.s16 ∷ trees.u16 ∷ trees.s32 ∷ trees.u32 ∷ trees.s64 ∷ trees.u64 ∷ trees.f32 ∷ trees.f64 ∷ trees.char ∷ trees.string ∷ trees.error_context
    ∷ trees.record_kind ∷ trees.variant_kind ∷ trees.enum_kind ∷ trees.flags_kind ∷ trees.tuple_kind ∷ trees.list_kind ∷ trees.fixed_length_list_kind ∷ trees.option_kind ∷ trees.result_kind
    ∷ trees.own_kind ∷ trees.borrow_kind ∷ trees.future_kind ∷ trees.stream_kind ∷ trees.function_kind ∷ []

kind_there : (k : Kind) → slice_get all_kinds (kind_code k) ≡ Some k
kind_there trees.bool = refl
kind_there trees.s8 = refl
kind_there trees.u8 = refl
kind_there trees.s16 = refl
kind_there trees.u16 = refl
kind_there trees.s32 = refl
kind_there trees.u32 = refl
kind_there trees.s64 = refl
kind_there trees.u64 = refl
kind_there trees.f32 = refl
kind_there trees.f64 = refl
kind_there trees.char = refl
kind_there trees.string = refl
kind_there trees.error_context = refl
kind_there trees.record_kind = refl
kind_there trees.variant_kind = refl
kind_there trees.enum_kind = refl
kind_there trees.flags_kind = refl
kind_there trees.tuple_kind = refl
kind_there trees.list_kind = refl
kind_there trees.fixed_length_list_kind = refl
kind_there trees.option_kind = refl
kind_there trees.result_kind = refl
kind_there trees.own_kind = refl
kind_there trees.borrow_kind = refl
kind_there trees.future_kind = refl
kind_there trees.stream_kind = refl
kind_there trees.function_kind = refl

kind_decides : (a b : Kind) → Decides (kind_code a == kind_code b) (a ≡ b)
kind_decides a b = (
  λ h. same_Some a b (sym (kind_there a) ∙ ap (slice_get all_kinds) ((Decides-eqb (kind_code a) (kind_code b)).0 h) ∙ kind_there b),
  λ e. (Decides-eqb (kind_code a) (kind_code b)).1 (ap kind_code e),
)

-- ---- forms

both_decide : {P Q R : Type 0} (a b : Bool) → Decides a P → Decides b Q → (P → Q → R) → (R → P × Q) → Decides (a && b) R
both_decide a b da db make parts = (
  λ h. let p = and_parts a b h in make (da.0 p.0) (db.0 p.1),
  λ r. and_from a b (da.1 (parts r).0) (db.1 (parts r).1),
)

labels_decide : (xs ys : List (List ℕ)) → Decides (pointwise bytes_eq xs ys) (xs ≡ ys)
labels_decide xs ys = slice_eq-Decides bytes_eq-Decides xs ys (pointwise bytes_eq xs ys) refl

pub form_decides : (a b : Form) → Decides (same_form a b) (a ≡ b)
form_decides a b = both_decide {Q = (a.labels ≡ b.labels) × (a.number ≡ b.number)} (kind_code a.kind == kind_code b.kind) (pointwise bytes_eq a.labels b.labels && (a.number == b.number)) (kind_decides a.kind b.kind)
    (both_decide (pointwise bytes_eq a.labels b.labels) (a.number == b.number) (labels_decide a.labels b.labels) (Decides-eqb a.number b.number) (λ p q. (p, q)) (λ r. (r.0, r.1)))
    (λ p q i. record { kind = p i; labels = q.0 i; number = q.1 i })
    (λ e. (ap (λ (x : Form). x.kind) e, (ap (λ (x : Form). x.labels) e, ap (λ (x : Form). x.number) e)))

-- ---- trees, where equality of names and of resources is decided

module _ {N R : Type 0} (p : N → N → Bool) (q : R → R → Bool) (names : (n m : N) → Decides (p n m) (n ≡ m)) (resources : (r s : R) → Decides (q r s) (r ≡ s)) where
  mutual
    tree_says : (t u : Tree N R) → same_tree p q t u ≡ true → t ≡ u
    tree_says (named n t) (named m u) h =
        let parts = and_parts (p n m) (same_tree p q t u) h in
        let e = (names n m).0 parts.0 in
        let f = tree_says t u parts.1 in
        λ i. named (e i) (f i)
    tree_says (resource r) (resource s) h = ap (λ x. resource x) ((resources r s).0 h)
    tree_says (of f ps) (of g qs) h =
        let parts = and_parts (same_form f g) (same_parts p q ps qs) h in
        let e = (form_decides f g).0 parts.0 in
        let d = parts_say ps qs parts.1 in
        λ i. of (e i) (d i)
    tree_says (named n t) (resource s) h = absurd cc
    tree_says (named n t) (of g qs) h = absurd cc
    tree_says (resource r) (named m u) h = absurd cc
    tree_says (resource r) (of g qs) h = absurd cc
    tree_says (of f ps) (named m u) h = absurd cc
    tree_says (of f ps) (resource s) h = absurd cc

    parts_say : (ts us : Parts N R) → same_parts p q ts us ≡ true → ts ≡ us
    parts_say none none h = refl
    parts_say (gap ts) (gap us) h = ap (λ x. gap x) (parts_say ts us h)
    parts_say (part t ts) (part u us) h =
        let parts = and_parts (same_tree p q t u) (same_parts p q ts us) h in
        let e = tree_says t u parts.0 in
        let d = parts_say ts us parts.1 in
        λ i. part (e i) (d i)
    parts_say none (gap us) h = absurd cc
    parts_say none (part u us) h = absurd cc
    parts_say (gap ts) none h = absurd cc
    parts_say (gap ts) (part u us) h = absurd cc
    parts_say (part t ts) none h = absurd cc
    parts_say (part t ts) (gap us) h = absurd cc

  mutual
    tree_same : (t : Tree N R) → same_tree p q t t ≡ true
    tree_same (named n t) = and_from (p n n) (same_tree p q t t) ((names n n).1 refl) (tree_same t)
    tree_same (resource r) = (resources r r).1 refl
    tree_same (of f ps) = and_from (same_form f f) (same_parts p q ps ps) ((form_decides f f).1 refl) (parts_same ps)

    parts_same : (ts : Parts N R) → same_parts p q ts ts ≡ true
    parts_same none = refl
    parts_same (gap ts) = parts_same ts
    parts_same (part t ts) = and_from (same_tree p q t t) (same_parts p q ts ts) (tree_same t) (parts_same ts)

  pub tree_decides : (t u : Tree N R) → Decides (same_tree p q t u) (t ≡ u)
  tree_decides t u = (tree_says t u, λ e. ap (same_tree p q t) (sym e) ∙ tree_same t)

-- ---- one replacement after the other

module _ {N R M S L Q : Type 0} (f : N → M) (g : R → Tree M S) (h : M → L) (k : S → Tree L Q) where
  mutual
    pub put_put : (t : Tree N R) → put h k (put f g t) ≡ put (λ n. h (f n)) (λ r. put h k (g r)) t
    put_put (named n t) = ap (named (h (f n))) (put_put t)
    put_put (resource r) = refl
    put_put (of form ps) = ap (of form) (put_put_parts ps)

    put_put_parts : (ps : Parts N R) → put_parts h k (put_parts f g ps) ≡ put_parts (λ n. h (f n)) (λ r. put h k (g r)) ps
    put_put_parts none = refl
    put_put_parts (gap ps) = ap gap (put_put_parts ps)
    put_put_parts (part t ps) =
        let e = put_put t in
        let d = put_put_parts ps in
        λ i. part (e i) (d i)
