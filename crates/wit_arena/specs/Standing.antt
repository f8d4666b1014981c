-- What stands in an arena for names and types is what they mean (WIT, Items, Use, Types).
use Rattle.std.specs.Prelude.{◌≡◌, ℕ, List, [], ◌∷◌, ◌++◌, Option, Some, None, length, option_map, string_bytes}
use Rattle.wit_types.specs.Passed.wit_words-Slice.{Slice}
use Rattle.wit_types.specs.Passed.wit_words-declared-source_map-Span.{Span}
use Rattle.wit_types.specs.declared.kind.«Type».{«Type» as Ref}
use Rattle.wit_types.specs.declared.kind.«Type».TheVariants.{Id}
use Rattle.wit_types.specs.declared.kind.TypeDefKind.{TypeDefKind}
use Rattle.wit_types.specs.declared.kind.TypeDefKind.TheVariants as kind
use Rattle.wit_types.specs.declared.interface.TypeDef.{TypeDef}
use Rattle.wit_type_names.specs.Passed.wit_productions-TypeTree as written
use Rattle.wit_type_names.specs.Passed.wit_productions-TypeTree.{TypeTree, TypeOption, standing}
use Rattle.wit_type_names.specs.Passed.wit_items-ItemTree.{TypeDefKindTree}
use Rattle.wit_type_names.specs.Passed.wit_syntax-Ast.{PackageNameTree}
use Rattle.wit_type_names.specs.Passed.wit_scopes-Paths.{own, foreign}
use Rattle.wit_type_names.specs.Passed.wit_scopes-Members.{MemberKind, used, defined, function, method, static, constructor}
use Rattle.wit_type_names.specs.Passed.wit_scopes-Scopes.{ItemScope}
use Rattle.wit_arena.specs.Tree.{Name, PackageText, Place, in_interface, Owner, Tree, Trees}
use Rattle.wit_arena.specs.Table.{Entries}
use Rattle.wit_arena.specs.Meaning.{Has, package_text, Declares, bare_name, Means, MeansParts, MeansName}
use Rattle.wit_arena.specs.Lower.{Lowers, LowersParts}
use Rattle.wit_arena.specs.LowerKind.{LowersKind}
use Rattle.wit_arena.specs.Unfold.{Owners, ref_tree, value_tree, part_trees, owner_of, trees, IsWhole}

-- ---- what stands

-- the id stands for the tree
abbrev pub HasTree : Owners → (Owner → Name → Tree) → List TypeDef → ℕ → Tree → Type 0
HasTree owners given a i t = ref_tree (trees owners given a) (Id i) ≡ Some t

-- the id stands for what the name means at the place
abbrev pub Stands : PackageText → List ItemScope → (Owner → Name → Tree) → Owners → List TypeDef → Place → Name → ℕ → Type 0
Stands me scopes given owners a o x i = (t : Tree) × HasTree owners given a i t × MeansName me scopes given o x t

-- each name of the table stands for what it means at the place
abbrev pub AreStanding : PackageText → List ItemScope → (Owner → Name → Tree) → Owners → Place → Entries → List TypeDef → Type 0
AreStanding me scopes given owners o table a = (x : Name) (i : ℕ) → Has table (x, i) → Stands me scopes given owners a o x i

-- an arena after a step: it begins with what was there, and is whole
pub record Grows (owners : Owners) (given : Owner → Name → Tree) (a b : List TypeDef) : Type 0 where
  pub more : List TypeDef
  pub grown : b ≡ a ++ more
  pub whole : IsWhole owners given b

-- a type of that name and kind, which belongs there
pub record IsDefinedAs (owners : Owners) (w : Owner) (x : Name) (k : TypeDefKind) (d : TypeDef) : Type 0 where
  pub name : option_map string_bytes d.name ≡ Some x
  pub kind : d.kind ≡ k
  pub owner : owner_of owners d.owner ≡ Some w

-- what a type means where no value is asked: a name alone means what the name does, be it a resource
pub data MeansAlone (me : PackageText) (scopes : List ItemScope) (given : Owner → Name → Tree) (o : Place) : TypeTree → Tree → Type 0 where
  alone_name : (s : Span) (x : Slice) (t : Tree) → MeansName me scopes given o x.text t → MeansAlone me scopes given o (standing s (written.named x)) t
  alone_type : (e : TypeTree) (t : Tree) → bare_name e ≡ None → Means me scopes given o e t → MeansAlone me scopes given o e t

-- ---- each step keeps it so

-- of a place of a package, with the table of the names that are known there
pub record StandForTheirMeaning (me : PackageText) (scopes : List ItemScope) (given : Owner → Name → Tree) (owners : Owners) (o : Place) (table : Entries) : Type 0 where
  -- no types, and no names
  pub none : IsWhole owners given [] × AreStanding me scopes given owners o [] []
  -- a name that stands for what it means may be put into the table
  pub named : (a : List TypeDef) (x : Name) (i : ℕ) → AreStanding me scopes given owners o table a → Stands me scopes given owners a o x i → AreStanding me scopes given owners o (table ++ (x, i) ∷ []) a
  -- what stands stays
  pub kept : (a b : List TypeDef) → Grows owners given a b → AreStanding me scopes given owners o table a → AreStanding me scopes given owners o table b
  -- a type that is brought in stands for a tree that it means
  pub lowered : (a b : List TypeDef) (e : TypeTree) (r : Ref) → IsWhole owners given a → AreStanding me scopes given owners o table a → Lowers table a e b r
      → Grows owners given a b × ((t : Tree) × (value_tree (trees owners given b) r ≡ Some t) × Means me scopes given o e t)
  -- so do parts of types, from left to right
  pub lowered_parts : (a b : List TypeDef) (ps : List TypeOption) (rs : List (Option Ref)) → IsWhole owners given a → AreStanding me scopes given owners o table a → LowersParts table a ps b rs
      → Grows owners given a b × ((ts : Trees) × (part_trees (trees owners given b) rs ≡ Some ts) × MeansParts me scopes given o ps ts)
  -- a definition that is put behind what its types need stands for what its name means
  pub brought : (a b : List TypeDef) (x : Name) (k : TypeDefKindTree) (n : TypeDefKind) (d : TypeDef)
      → IsWhole owners given a → AreStanding me scopes given owners o table a → Declares scopes o x (defined k) → LowersKind table a k b n → IsDefinedAs owners (record { package_text = me; place = o }) x n d
      → Grows owners given a (b ++ d ∷ []) × Stands me scopes given owners (b ++ d ∷ []) o x (length b)
  -- so does another name of what a name of an interface of the package stands for
  pub used_own : (a : List TypeDef) (x : Name) (i y : Slice) (j : ℕ) (d : TypeDef)
      → IsWhole owners given a → Declares scopes o x (used (own i) y) → Stands me scopes given owners a (in_interface i.text) y.text j → IsDefinedAs owners (record { package_text = me; place = o }) x (kind.Alias (Id j)) d
      → Grows owners given a (a ++ d ∷ []) × Stands me scopes given owners (a ++ d ∷ []) o x (length a)
  -- and of what is given for a name of another package
  pub used_foreign : (a : List TypeDef) (x : Name) (p : PackageNameTree) (i y : Slice) (j : ℕ) (d : TypeDef)
      → IsWhole owners given a → Declares scopes o x (used (foreign p i) y) → HasTree owners given a j (given (record { package_text = package_text p; place = in_interface i.text }) y.text)
      → IsDefinedAs owners (record { package_text = me; place = o }) x (kind.Alias (Id j)) d
      → Grows owners given a (a ++ d ∷ []) × Stands me scopes given owners (a ++ d ∷ []) o x (length a)
  -- for which a type stands of which nothing is known but its name
  pub unknown : (a : List TypeDef) (w : Owner) (y : Name) (d : TypeDef) → IsWhole owners given a → IsDefinedAs owners w y kind.Unknown d
      → Grows owners given a (a ++ d ∷ []) × HasTree owners given (a ++ d ∷ []) (length a) (given w y)

-- from the arena of no types on each type stands for what it means, whatever the package and whatever is given for names of others
abbrev pub TypesStandForTheirMeaning : Type 0
TypesStandForTheirMeaning =
    (me : PackageText) (scopes : List ItemScope) (given : Owner → Name → Tree) (owners : Owners) (o : Place) (table : Entries) → StandForTheirMeaning me scopes given owners o table

-- ---- at most one tree

-- a type: one that is used, or a definition
abbrev pub IsOfType : MemberKind → Type 0
IsOfType (used t n) = Unit {0}
IsOfType (defined k) = Unit {0}
IsOfType (function f) = ⊥
IsOfType (method r f) = ⊥
IsOfType (static r f) = ⊥
IsOfType (constructor r ps t) = ⊥

-- at each place a name is of one type at most; a constructor has the name of its resource, and is of no type
abbrev pub AreFunctional : List ItemScope → Type 0
AreFunctional scopes = (o : Place) (x : Name) (j k : MemberKind) → Declares scopes o x j → Declares scopes o x k → IsOfType j → IsOfType k → j ≡ k

-- what is written means one tree at most
pub record MeaningIsOne (me : PackageText) (scopes : List ItemScope) (given : Owner → Name → Tree) : Type 0 where
  pub of_types : (o : Place) (e : TypeTree) (t u : Tree) → Means me scopes given o e t → Means me scopes given o e u → t ≡ u
  pub of_parts : (o : Place) (ps : List TypeOption) (ts us : Trees) → MeansParts me scopes given o ps ts → MeansParts me scopes given o ps us → ts ≡ us
  pub of_names : (o : Place) (x : Name) (t u : Tree) → MeansName me scopes given o x t → MeansName me scopes given o x u → t ≡ u

abbrev pub TypesMeanOneTree : Type 0
TypesMeanOneTree = (me : PackageText) (scopes : List ItemScope) (given : Owner → Name → Tree) → AreFunctional scopes → MeaningIsOne me scopes given
