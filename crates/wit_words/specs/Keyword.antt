-- Words that are keywords (WIT, Keywords), in groups.
use Rattle.std.specs.Prelude.{ℕ, List, Option, Some, None, if◌then◌else◌, codes, bytes_eq}
use Rattle.wit_words.specs.declared.token.Kind.{Kind}
use Rattle.wit_words.specs.declared.token.Kind.TheVariants as kind

-- a type of integers
unfoldable pub integer_type : List ℕ → Option Kind
integer_type word =
    if bytes_eq word (codes "s8") then Some kind.S8
    else if bytes_eq word (codes "s16") then Some kind.S16
    else if bytes_eq word (codes "s32") then Some kind.S32
    else if bytes_eq word (codes "s64") then Some kind.S64
    else if bytes_eq word (codes "u8") then Some kind.U8
    else if bytes_eq word (codes "u16") then Some kind.U16
    else if bytes_eq word (codes "u32") then Some kind.U32
    else if bytes_eq word (codes "u64") then Some kind.U64
    else None

-- another type without parts
unfoldable pub simple_type : List ℕ → Option Kind
simple_type word =
    if bytes_eq word (codes "bool") then Some kind.Bool
    else if bytes_eq word (codes "char") then Some kind.Char
    else if bytes_eq word (codes "error-context") then Some kind.ErrorContext
    else if bytes_eq word (codes "f32") then Some kind.F32
    else if bytes_eq word (codes "f64") then Some kind.F64
    else if bytes_eq word (codes "string") then Some kind.StringKeyword
    else None

-- what a type with parts begins with
unfoldable pub compound_type : List ℕ → Option Kind
compound_type word =
    if bytes_eq word (codes "borrow") then Some kind.Borrow
    else if bytes_eq word (codes "future") then Some kind.Future
    else if bytes_eq word (codes "list") then Some kind.ListKeyword
    else if bytes_eq word (codes "option") then Some kind.OptionKeyword
    else if bytes_eq word (codes "own") then Some kind.Own
    else if bytes_eq word (codes "result") then Some kind.ResultKeyword
    else if bytes_eq word (codes "stream") then Some kind.Stream
    else if bytes_eq word (codes "tuple") then Some kind.Tuple
    else None

-- what says what is defined
unfoldable pub definition : List ℕ → Option Kind
definition word =
    if bytes_eq word (codes "enum") then Some kind.Enum
    else if bytes_eq word (codes "flags") then Some kind.Flags
    else if bytes_eq word (codes "func") then Some kind.Func
    else if bytes_eq word (codes "interface") then Some kind.Interface
    else if bytes_eq word (codes "package") then Some kind.Package
    else if bytes_eq word (codes "record") then Some kind.Record
    else if bytes_eq word (codes "resource") then Some kind.Resource
    else if bytes_eq word (codes "type") then Some kind.TypeKeyword
    else if bytes_eq word (codes "variant") then Some kind.Variant
    else if bytes_eq word (codes "world") then Some kind.World
    else None

-- any other keyword
unfoldable pub other : List ℕ → Option Kind
other word =
    if bytes_eq word (codes "as") then Some kind.As
    else if bytes_eq word (codes "async") then Some kind.Async
    else if bytes_eq word (codes "constructor") then Some kind.Constructor
    else if bytes_eq word (codes "export") then Some kind.Export
    else if bytes_eq word (codes "from") then Some kind.FromKeyword
    else if bytes_eq word (codes "import") then Some kind.Import
    else if bytes_eq word (codes "include") then Some kind.Include
    else if bytes_eq word (codes "static") then Some kind.Static
    else if bytes_eq word (codes "use") then Some kind.Use
    else if bytes_eq word (codes "with") then Some kind.With
    else None

abbrev pub or_else : Option Kind → Option Kind → Option Kind
or_else (Some kind) other = Some kind
or_else None other = other

-- the keyword that a word is
unfoldable pub keyword : List ℕ → Option Kind
keyword word = or_else (integer_type word) (or_else (simple_type word) (or_else (compound_type word) (or_else (definition word) (other word))))
