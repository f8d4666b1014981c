-- What is found by a name is one thing, and so are options: nothing forbids those that are there.
use Rattle.std.proofs.Common.{◌≡◌, ℕ, Bool, true, false, ◌||◌, List, Option, Some, inl, inr, refl, sym, subst, ap, ◌∙◌}
use Rattle.std.proofs.lemmas.Option.{same_Some}
use Rattle.std.specs.Prelude.{slice_get}
use Rattle.wasm_types.specs.Entries.{ExportValue}
use Rattle.wasm_types.specs.declared.types.ExportKind.TheVariants as kinds
use Rattle.wasm_format.specs.Module.{exported_type}
use Rattle.wit_types.specs.declared.mangling.AbiVariant.{AbiVariant}
use Rattle.canonical_options.specs.Passed.flat_types-Signature.{RequiredValue}
use Rattle.link_lines.specs.declared.encoding.StringEncoding.{StringEncoding}
use Rattle.core_links.specs.Exports.{MeansTwo, IsUnclear}
use Rattle.link_table.specs.Linking.{Linking}
use Rattle.link_table.specs.Options.{Naming, IsThere, IsMissing, IsMemory, IsMemoryIf, IsMemoryName, IsOwnReallocName, IsReallocName, IsReallocAt, HasNoRealloc, IsReallocUnclear, IsRealloc, realloc_type, Options, IsReallocIf, AreOptions, asks, LacksMemory, LacksRealloc, AreOptionsUnclear, AreOptionsMistyped, IsNoMemory, IsReallocMistyped}

-- ---- core exports by names

pub one_export : (es : List ExportValue) (p q : ℕ) (d e : ExportValue) → p ≡ q → slice_get es p ≡ Some d → slice_get es q ≡ Some e → d ≡ e
one_export es p q d e same at there = same_Some d e (sym at ∙ ap (slice_get es) same ∙ there)

module _ (l : Linking) (Is : Naming) where
  pub missing_clear : IsMissing l Is → IsUnclear l.names l.main.exports Is → ⊥
  missing_clear missing (inl two) = missing two.first two.one two.one_there two.one_named
  missing_clear missing (inr one) = missing one.place one.one one.there one.named

  pub not_missing : (place : ℕ) → IsThere l Is place → IsMissing l Is → ⊥
  not_missing place at missing = missing place at.one at.there at.named

  pub one_place : (p q : ℕ) → IsThere l Is p → IsThere l Is q → p ≡ q
  one_place p q at there = there.only p at.one at.there at.named

  pub not_unclear : (place : ℕ) → IsThere l Is place → IsUnclear l.names l.main.exports Is → ⊥
  not_unclear place at (inl two) = two.apart (at.only two.first two.one two.one_there two.one_named ∙ sym (at.only two.second two.other two.other_there two.other_named))
  not_unclear place at (inr one) =
      let same = one_export l.main.exports one.place place one.one at.one (at.only one.place one.one one.there one.named) one.there at.there in
      at.one_meaning (subst (λ (e : ExportValue). MeansTwo l.names e.name) same one.two)

-- ---- what makes room

module _ (l : Linking) (variant : AbiVariant) where
  abbrev Own : Naming
  Own = IsOwnReallocName l.names variant

  abbrev General : Naming
  General = IsReallocName l.names

  pub one_realloc : (p q : ℕ) → IsReallocAt l variant p → IsReallocAt l variant q → p ≡ q
  one_realloc p q (inl own) (inl other) = one_place l Own p q own other
  one_realloc p q (inl own) (inr general) = absurd (not_missing l Own p own general.0)
  one_realloc p q (inr general) (inl own) = absurd (not_missing l Own q own general.0)
  one_realloc p q (inr general) (inr other) = one_place l General p q general.1 other.1

  pub has_realloc : (p : ℕ) → IsReallocAt l variant p → HasNoRealloc l variant → ⊥
  has_realloc p (inl own) none = not_missing l Own p own none.0
  has_realloc p (inr general) none = not_missing l General p general.1 none.1

  pub clear_realloc : (p : ℕ) → IsReallocAt l variant p → IsReallocUnclear l variant → ⊥
  clear_realloc p (inl own) (inl two) = not_unclear l Own p own two
  clear_realloc p (inl own) (inr two) = not_missing l Own p own two.0
  clear_realloc p (inr general) (inl two) = missing_clear l Own general.0 two
  clear_realloc p (inr general) (inr two) = not_unclear l General p general.1 two.1

  pub typed_realloc : (name : List ℕ) → IsRealloc l variant name → IsReallocMistyped l variant → ⊥
  typed_realloc name is isnt =
      let same = one_export l.main.exports is.place isnt.place is.export isnt.export (one_realloc is.place isnt.place is.is isnt.is) is.there isnt.there in
      isnt.typed (subst (λ (e : ExportValue). exported_type l.main e.kind e.index ≡ Some realloc_type) same is.typed)

  pub same_realloc : (name other : List ℕ) → IsRealloc l variant name → IsRealloc l variant other → name ≡ other
  same_realloc name other is too =
      let same = one_export l.main.exports is.place too.place is.export too.export (one_realloc is.place too.place is.is too.is) is.there too.there in
      is.named ∙ ap (λ (e : ExportValue). e.name) same ∙ sym too.named

-- ---- the memory

module _ (l : Linking) where
  pub memory_is : (name : List ℕ) → IsMemory l name → IsNoMemory l → ⊥
  memory_is name is isnt =
      let same = one_export l.main.exports is.place isnt.place is.at.export isnt.export (one_place l (IsMemoryName l.names) is.place isnt.place is.at.is isnt.is) is.at.there isnt.there in
      isnt.kind (subst (λ (e : ExportValue). e.kind ≡ kinds.Memory) same is.at.kind)

  pub same_memory : (name other : List ℕ) → IsMemory l name → IsMemory l other → name ≡ other
  same_memory name other is too =
      let same = one_export l.main.exports is.place too.place is.at.export too.at.export (one_place l (IsMemoryName l.names) is.place too.place is.at.is too.at.is) is.at.there too.at.there in
      is.named ∙ ap (λ (e : ExportValue). e.name) same ∙ sym too.named

-- ---- options

or_true : (a b : Bool) → b ≡ true → a || b ≡ true
or_true true b e = refl
or_true false b e = e

or_first : (a b : Bool) → a ≡ true → a || b ≡ true
or_first true b e = refl
or_first false b e = absurd (let f : false ≡ true = e in cc)

asks_memory : (r : RequiredValue) → r.memory ≡ true → asks r ≡ true
asks_memory r e = or_first r.memory (r.realloc || r.encoding) e

asks_realloc : (r : RequiredValue) → r.realloc ≡ true → asks r ≡ true
asks_realloc r e = or_true r.memory (r.realloc || r.encoding) (or_first r.realloc r.encoding e)

opposed : (b : Bool) → b ≡ true → b ≡ false → ⊥
opposed b e f = absurd (let g : true ≡ false = sym e ∙ f in cc)

-- what asks for nothing lacks nothing
module _ (l : Linking) (variant : AbiVariant) (r : RequiredValue) (none : asks r ≡ false) where
  pub plain_memory : LacksMemory l r → ⊥
  plain_memory lacks = opposed (asks r) (asks_memory r lacks.0) none

  pub plain_realloc : LacksRealloc l variant r → ⊥
  plain_realloc lacks = opposed (asks r) (asks_realloc r lacks.0) none

  pub plain_clear : AreOptionsUnclear l variant r → ⊥
  plain_clear (inl memory) = opposed (asks r) (asks_memory r memory.0) none
  plain_clear (inr realloc) = opposed (asks r) (asks_realloc r realloc.0) none

  pub plain_typed : AreOptionsMistyped l variant r → ⊥
  plain_typed (inl memory) = opposed (asks r) (asks_memory r memory.0) none
  plain_typed (inr realloc) = opposed (asks r) (asks_realloc r realloc.0) none

-- nor does what has what it asks for
module _ (l : Linking) (variant : AbiVariant) (r : RequiredValue) (o : Options) (are : AreOptions l variant r o) where
  realloc_of : r.realloc ≡ true → (name : List ℕ) × IsRealloc l variant name × (o.realloc ≡ Some name)
  realloc_of e = subst (λ (b : Bool). IsReallocIf l variant b o.realloc) e are.realloc

  memory_of : r.memory ≡ true → (name : List ℕ) × IsMemory l name × (o.memory ≡ Some name)
  memory_of e = subst (λ (b : Bool). IsMemoryIf l b o.memory) e are.memory

  pub found_memory : LacksMemory l r → ⊥
  found_memory lacks = (let m = memory_of lacks.0 in not_missing l (IsMemoryName l.names) m.1.place m.1.at.is lacks.1)

  pub found_realloc : LacksRealloc l variant r → ⊥
  found_realloc lacks = (let f = realloc_of lacks.0 in has_realloc l variant f.1.place f.1.is lacks.1)

  pub found_clear : AreOptionsUnclear l variant r → ⊥
  found_clear (inl memory) = (let m = memory_of memory.0 in not_unclear l (IsMemoryName l.names) m.1.place m.1.at.is memory.1)
  found_clear (inr realloc) = (let f = realloc_of realloc.0 in clear_realloc l variant f.1.place f.1.is realloc.1)

  pub found_typed : AreOptionsMistyped l variant r → ⊥
  found_typed (inl memory) = (let m = memory_of memory.0 in memory_is l m.0 m.1 memory.1)
  found_typed (inr realloc) = (let f = realloc_of realloc.0 in typed_realloc l variant f.0 f.1 realloc.1)

-- ---- options are one

one_if : (l : Linking) (variant : AbiVariant) (b : Bool) (x y : Option (List ℕ)) → IsReallocIf l variant b x → IsReallocIf l variant b y → x ≡ y
one_if l variant false x y a b = a ∙ sym b
one_if l variant true x y a b = a.2 ∙ ap (λ (name : List ℕ). Some name) (same_realloc l variant a.0 b.0 a.1 b.1) ∙ sym b.2

one_memory : (l : Linking) (b : Bool) (x y : Option (List ℕ)) → IsMemoryIf l b x → IsMemoryIf l b y → x ≡ y
one_memory l false x y a b = a ∙ sym b
one_memory l true x y a b = a.2 ∙ ap (λ (name : List ℕ). Some name) (same_memory l a.0 b.0 a.1 b.1) ∙ sym b.2

options_eq : (o p : Options) → o.memory ≡ p.memory → o.realloc ≡ p.realloc → o.encoding ≡ p.encoding → o ≡ p
options_eq o p e f g =
    ap (λ (m : Option (List ℕ)). record { memory = m; realloc = o.realloc; encoding = o.encoding }) e
    ∙ ap (λ (x : Option (List ℕ)). record { memory = p.memory; realloc = x; encoding = o.encoding }) f
    ∙ ap (λ (x : Option StringEncoding). record { memory = p.memory; realloc = p.realloc; encoding = x }) g

pub one_options : (l : Linking) (variant : AbiVariant) (r : RequiredValue) (o p : Options) → AreOptions l variant r o → AreOptions l variant r p → o ≡ p
one_options l variant r o p a b = options_eq o p (one_memory l r.memory o.memory p.memory a.memory b.memory) (one_if l variant r.realloc o.realloc p.realloc a.realloc b.realloc) (a.encoding ∙ sym b.encoding)
