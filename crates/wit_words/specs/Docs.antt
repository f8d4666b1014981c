-- What docs say.
use Rattle.std.specs.Prelude.{◌≡◌, ℕ, ◌-◌, Bool, ◌&&◌, ◌==◌, List, [], ◌∷◌, ◌++◌, length, take, drop, flat_map, codes, nat_eq, if◌then◌else◌}
use Rattle.std.specs.List.{starts_with, ends_with, join_by}
use Rattle.std.specs.Str.{trim}
use Rattle.std.specs.Str.Lines.{lines}
use Rattle.wit_words.specs.Slice.{Slice}

-- `/** .. */`, with this between the marks
abbrev pub IsBlock : List ℕ → List ℕ → Type 0
IsBlock comment inside = comment ≡ codes "/**" ++ (inside ++ codes "*/")

abbrev pub is_block : List ℕ → Bool
is_block comment = starts_with nat_eq comment (codes "/**") && ends_with nat_eq (drop 3 comment) (codes "*/")

-- a text without the slashes in front; 47 is `/`
abbrev pub without_slashes : List ℕ → List ℕ
without_slashes [] = []
without_slashes (b ∷ z) = if b == 47 then without_slashes z else b ∷ z

-- what a comment says: what stands between the marks of `/** .. */`, and in any other text behind all slashes in front, without Unicode's white space at both ends
unfoldable pub comment_text : List ℕ → List ℕ
comment_text comment = trim (if is_block comment then take (length comment - 5) (drop 3 comment) else without_slashes comment)

-- The lines of what a comment says, of which the first may be all: a line ends with a line feed, with which a carriage return in front of it goes.
abbrev pub lines_of : List ℕ → List (List ℕ)
lines_of text = if length text == 0 then [] ∷ [] else lines text

-- a line in front of others goes where it is empty and none is left behind it
abbrev pub kept_line : List ℕ → List (List ℕ) → List (List ℕ)
kept_line [] [] = []
kept_line [] (y ∷ ys) = [] ∷ y ∷ ys
kept_line (b ∷ x) ys = (b ∷ x) ∷ ys

-- lines without the empty ones at the end
abbrev pub without_empty_end : List (List ℕ) → List (List ℕ)
without_empty_end [] = []
without_empty_end (x ∷ xs) = kept_line x (without_empty_end xs)

-- the lines of each comment, one behind the other without the empty ones at the end, and a line feed, 10, between two
abbrev pub docs_text : List Slice → List ℕ
docs_text comments = join_by (λ line. line) (10 ∷ []) (without_empty_end (flat_map (λ c. lines_of (comment_text c.text)) comments))
