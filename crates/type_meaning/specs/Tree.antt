-- Trees of types: forms with labels, names over them, resources as leaves (Component Model, Explainer, Type Definitions).
use Rattle.std.specs.Prelude.{ℕ, List, Bool, true, false, ◌&&◌, ◌==◌, bytes_eq}
use Rattle.std.specs.Cmp.Lexicographic.{pointwise}

-- the kinds of types; a function's type is a tree like any other
pub data Kind : Type 0 where
  bool s8 u8 s16 u16 s32 u32 s64 u64 f32 f64 char string error_context : Kind
  record_kind variant_kind enum_kind flags_kind tuple_kind list_kind fixed_length_list_kind option_kind result_kind own_kind borrow_kind future_kind stream_kind function_kind : Kind

-- a kind, with the labels of fields, cases, flags or parameters, and with the length of a list, if that is part of its type
pub record Form : Type 0 where
  pub kind : Kind
  pub labels : List (List ℕ)
  pub number : ℕ

-- N are the names that stand over trees, R what resources are
mutual
  pub data Tree (N R : Type 0) : Type 0 where
    -- one name of the chain by which a type is reached, outermost first
    named : N → Tree N R → Tree N R
    resource : R → Tree N R
    of : Form → Parts N R → Tree N R

  -- the parts of a form in order, with a gap where there may be a type and there is none; those of a function are its result and then its
  -- parameters
  pub data Parts (N R : Type 0) : Type 0 where
    none : Parts N R
    gap : Parts N R → Parts N R
    part : Tree N R → Parts N R → Parts N R

-- ---- names and resources replaced throughout

abbrev mutual
  pub put : {N R M S : Type 0} → (N → M) → (R → Tree M S) → Tree N R → Tree M S
  put f g (named n t) = named (f n) (put f g t)
  put f g (resource r) = g r
  put f g (of form ps) = of form (put_parts f g ps)

  pub put_parts : {N R M S : Type 0} → (N → M) → (R → Tree M S) → Parts N R → Parts M S
  put_parts f g none = none
  put_parts f g (gap ps) = gap (put_parts f g ps)
  put_parts f g (part t ps) = part (put f g t) (put_parts f g ps)

-- ---- what a tree is, under its names

abbrev pub is_resource : {N R : Type 0} → Tree N R → Bool
is_resource (named n t) = is_resource t
is_resource (resource r) = true
is_resource (of form ps) = false

abbrev pub kind_is : {N R : Type 0} → (Kind → Bool) → Tree N R → Bool
kind_is test (named n t) = kind_is test t
kind_is test (resource r) = false
kind_is test (of form ps) = test form.kind

-- ---- equal trees, by tests of names and of resources

abbrev pub kind_code : Kind → ℕ
kind_code bool = 0
kind_code s8 = 1
kind_code u8 = 2
kind_code s16 = 3
kind_code u16 = 4
kind_code s32 = 5
kind_code u32 = 6
kind_code s64 = 7
kind_code u64 = 8
kind_code f32 = 9
kind_code f64 = 10
kind_code char = 11
kind_code string = 12
kind_code error_context = 13
kind_code record_kind = 14
kind_code variant_kind = 15
kind_code enum_kind = 16
kind_code flags_kind = 17
kind_code tuple_kind = 18
kind_code list_kind = 19
kind_code fixed_length_list_kind = 20
kind_code option_kind = 21
kind_code result_kind = 22
kind_code own_kind = 23
kind_code borrow_kind = 24
kind_code future_kind = 25
kind_code stream_kind = 26
kind_code function_kind = 27

abbrev pub same_form : Form → Form → Bool
same_form a b = (kind_code a.kind == kind_code b.kind) && (pointwise bytes_eq a.labels b.labels && (a.number == b.number))

abbrev mutual
  pub same_tree : {N R : Type 0} → (N → N → Bool) → (R → R → Bool) → Tree N R → Tree N R → Bool
  same_tree p q (named n t) (named m u) = p n m && same_tree p q t u
  same_tree p q (named n t) (resource s) = false
  same_tree p q (named n t) (of form ps) = false
  same_tree p q (resource r) (named m u) = false
  same_tree p q (resource r) (resource s) = q r s
  same_tree p q (resource r) (of form ps) = false
  same_tree p q (of form ps) (named m u) = false
  same_tree p q (of form ps) (resource s) = false
  same_tree p q (of f ps) (of g qs) = same_form f g && same_parts p q ps qs

  pub same_parts : {N R : Type 0} → (N → N → Bool) → (R → R → Bool) → Parts N R → Parts N R → Bool
  same_parts p q none none = true
  same_parts p q none (gap us) = false
  same_parts p q none (part u us) = false
  same_parts p q (gap ts) none = false
  same_parts p q (gap ts) (gap us) = same_parts p q ts us
  same_parts p q (gap ts) (part u us) = false
  same_parts p q (part t ts) none = false
  same_parts p q (part t ts) (gap us) = false
  same_parts p q (part t ts) (part u us) = same_tree p q t u && same_parts p q ts us
