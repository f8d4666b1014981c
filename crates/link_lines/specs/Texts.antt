-- The texts of links, byte by byte.
use Rattle.std.specs.Prelude.{ℕ, ◌+◌, ◌/◌, ◌%◌, Bool, ◌||◌, ◌==◌, nat_lt, if◌then◌else◌, List, [], ◌∷◌, ◌++◌, Option, Some, None, String, string_bytes, codes, encode_utf8}
use Rattle.std.specs.List.{flat_map}
use Rattle.std.specs.Str.{chars}
use Rattle.std.specs.declared.alloc.Global.{Global}
use Rattle.link_lines.specs.declared.encoding.StringEncoding.{StringEncoding}
use Rattle.link_lines.specs.declared.encoding.StringEncoding.TheVariants.{UTF8, UTF16, CompactUTF16}
use Rattle.link_lines.specs.declared.line.LinkSide.{LinkSide}
use Rattle.link_lines.specs.declared.line.LinkSide.TheVariants.{Import, Export, Dtor, Start}
use Rattle.link_lines.specs.declared.line.LinkKind.{LinkKind}
use Rattle.link_lines.specs.declared.line.LinkKind.TheVariants.{Lower, Core}
use Rattle.link_lines.specs.declared.line.Owner.{Owner}
use Rattle.link_lines.specs.declared.line.Owner.TheVariants.{Main, Adapter}
use Rattle.link_lines.specs.declared.line.Link.{Link}

-- up to 32, 127 and the backslash
abbrev pub is_escaped : ℕ → Bool
is_escaped c = nat_lt c 33 || (c == 127 || c == 92)

-- `0` to `9`, and then `a` to `f`
abbrev pub hex_digit : ℕ → ℕ
hex_digit n = if nat_lt n 10 then 48 + n else 87 + n

-- a backslash and two hexadecimal digits
abbrev pub escape : ℕ → List ℕ
escape c = 92 ∷ hex_digit (c / 16) ∷ hex_digit (c % 16) ∷ []

-- a character of a name
abbrev pub escaped : ℕ → List ℕ
escaped c = if is_escaped c then escape c else encode_utf8 c

-- a name without spaces; an empty one is `\e`
abbrev pub name_text : List ℕ → List ℕ
name_text [] = 92 ∷ 101 ∷ []
name_text (b ∷ bs) = flat_map escaped (chars (b ∷ bs))

-- an absent name is `-`
abbrev pub field_text : Option (String Global) → List ℕ
field_text None = codes "-"
field_text (Some name) = name_text (string_bytes name)

abbrev pub side_word : LinkSide → List ℕ
side_word Import = codes "import"
side_word Export = codes "export"
side_word Dtor = codes "dtor"
side_word Start = codes "start"

abbrev pub owner_text : Owner → List ℕ
owner_text Main = codes "main"
owner_text (Adapter name) = codes "adapter:" ++ name_text (string_bytes name)

abbrev pub kind_word : LinkKind → List ℕ
kind_word Lower = codes "lower"
kind_word Core = codes "core"

abbrev pub encoding_word : Option StringEncoding → List ℕ
encoding_word None = codes "-"
encoding_word (Some UTF8) = codes "utf-8"
encoding_word (Some UTF16) = codes "utf-16"
encoding_word (Some CompactUTF16) = codes "latin1+utf-16"

-- one more field of a line, behind a space
abbrev pub with_field : List ℕ → List ℕ → List ℕ
with_field line field = line ++ 32 ∷ field

-- the twelve fields of a link, one space between
abbrev pub link_text : Link → List ℕ
link_text l =
    let line = with_field (side_word l.side) (owner_text l.owner) in
    let line = with_field (with_field line (field_text l.«module»)) (field_text l.name) in
    let line = with_field (with_field (with_field line (kind_word l.kind)) (field_text l.place)) (field_text l.item) in
    let line = with_field (with_field line (field_text l.memory)) (field_text l.realloc) in
    with_field (with_field (with_field line (encoding_word l.encoding)) (field_text l.post_return)) (field_text l.hook)

-- lines, each with a line feed
abbrev pub lines_text : List Link → List ℕ
lines_text = flat_map (λ l. link_text l ++ 10 ∷ [])
