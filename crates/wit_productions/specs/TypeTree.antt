-- Types, without where their names lie in memory (WIT, Types).
use Rattle.std.specs.Prelude.{ℕ, List, [], ◌∷◌, Option, Some, None}
use Rattle.wit_tokens.specs.Passed.wit_words-declared-source_map-Span.{Span}
use Rattle.wit_tokens.specs.Passed.wit_words-Slice.{Slice}

mutual
  -- a type, and where it stands
  pub data TypeTree : Type 0 where
    standing : Span → TypeShape → TypeTree

  pub data TypeShape : Type 0 where
    bool : TypeShape
    u8 : TypeShape
    u16 : TypeShape
    u32 : TypeShape
    u64 : TypeShape
    s8 : TypeShape
    s16 : TypeShape
    s32 : TypeShape
    s64 : TypeShape
    f32 : TypeShape
    f64 : TypeShape
    char : TypeShape
    string : TypeShape
    named : Slice → TypeShape
    list : TypeTree → TypeShape
    fixed_length_list : TypeTree → ℕ → TypeShape
    option : TypeTree → TypeShape
    tuple : TypeRow → TypeShape
    result : (ok err : TypeOption) → TypeShape
    own : Slice → TypeShape
    borrow : Slice → TypeShape
    future : TypeOption → TypeShape
    stream : TypeOption → TypeShape
    error_context : TypeShape

  pub data TypeRow : Type 0 where
    no_types : TypeRow
    types : TypeTree → TypeRow → TypeRow

  pub data TypeOption : Type 0 where
    no_type : TypeOption
    a_type : TypeTree → TypeOption

abbrev pub row : List TypeTree → TypeRow
row [] = no_types
row (t ∷ ts) = types t (row ts)

abbrev pub opt : Option TypeTree → TypeOption
opt None = no_type
opt (Some t) = a_type t
