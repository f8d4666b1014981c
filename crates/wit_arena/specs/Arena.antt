-- Arenas in which types without a name that are made of the same are one (WIT, Types).
use Rattle.std.specs.Prelude.{◌≡◌, ℕ, List, [], ◌∷◌, ◌++◌, Option, Some, None, length, slice_get, IsSome}
use Rattle.wit_types.specs.Passed.wit_words-declared-source_map-Span.{Span}
use Rattle.wit_types.specs.declared.kind.«Type».{«Type» as Ref}
use Rattle.wit_types.specs.declared.kind.«Type».TheVariants.{Id}
use Rattle.wit_types.specs.declared.interface.TypeDef.{TypeDef}
use Rattle.wit_types.specs.declared.interface.TypeOwner.TheVariants as owners
use Rattle.wit_types.specs.declared.stability.Stability.TheVariants as stabilities
use Rattle.wit_arena.specs.declared.shape.Shape.{Shape}
use Rattle.wit_arena.specs.Shape.{ShapeTree, shape_of, kind_shape}

-- a type without a name of that shape, which belongs nowhere and of which nothing is said
pub record IsUnnamed (k : ShapeTree) (d : TypeDef) : Type 0 where
  pub nameless : d.name ≡ None
  pub kind : kind_shape d.kind ≡ Some k
  pub owner : d.owner ≡ owners.None
  pub docs : d.docs.contents ≡ None
  pub stability : d.stability ≡ stabilities.Unknown

-- types without a name that are made of the same have one id
abbrev pub IsUnique : List TypeDef → Type 0
IsUnique a = (i j : ℕ) (d e : TypeDef) (k : ShapeTree) → slice_get a i ≡ Some d → slice_get a j ≡ Some e → d.name ≡ None → e.name ≡ None → kind_shape d.kind ≡ Some k → kind_shape e.kind ≡ Some k → i ≡ j

-- a new type without a name goes last, and is said to stand there
abbrev pub Adds : List TypeDef → ShapeTree → Span → List TypeDef → ℕ → Type 0
Adds old k span new i = (d : TypeDef) × IsUnnamed k d × (d.span ≡ span) × (new ≡ old ++ d ∷ []) × (i ≡ length old)

-- the type stands for the shape: it stood there, or it is new, comes last, is said to stand there, and no type without a name was of that shape
pub data Interns (old : List TypeDef) (k : ShapeTree) (span : Span) (new : List TypeDef) : Ref → Type 0 where
  there : (i : ℕ) (d : TypeDef) → slice_get old i ≡ Some d → IsUnnamed k d → new ≡ old → Interns old k span new (Id i)
  fresh : (d : TypeDef) → IsUnnamed k d → d.span ≡ span → new ≡ old ++ d ∷ [] → ((j : ℕ) (e : TypeDef) → slice_get old j ≡ Some e → e.name ≡ None → kind_shape e.kind ≡ Some k → ⊥)
      → Interns old k span new (Id (length old))

-- the table of shapes is that of the types without a name
pub record AreKnown (a : List TypeDef) (known : Shape → Option ℕ) : Type 0 where
  pub sound : (s : Shape) (i : ℕ) → known s ≡ Some i → (d : TypeDef) × (slice_get a i ≡ Some d) × IsUnnamed (shape_of s) d
  pub complete : (i : ℕ) (d : TypeDef) → slice_get a i ≡ Some d → d.name ≡ None → (s : Shape) × IsUnnamed (shape_of s) d × (known s ≡ Some i)

-- types without a name that are made of the same stay one, from the arena of no types on
pub record UnnamedTypesAreOne : Type 0 where
  pub none : IsUnique []
  pub interned : (a b : List TypeDef) (k : ShapeTree) (s : Span) (r : Ref) → IsUnique a → Interns a k s b r → IsUnique b
  pub defined : (a : List TypeDef) (d : TypeDef) → IsUnique a → IsSome d.name → IsUnique (a ++ d ∷ [])
