-- Worked rows: characters of names as they stand in the lines of links.
use Rattle.std.proofs.Common.{◌≡◌, [], ◌∷◌, refl}
use Rattle.std.specs.Prelude.{true, false, codes}
use Rattle.std.specs.List.{flat_map}
use Rattle.link_lines.specs.Texts.{is_escaped, escape, name_text}

a_space : flat_map escape (codes "\\ ") ≡ codes "\\5c\\20"
a_space = refl

no_character : name_text [] ≡ codes "\\e"
no_character = refl

control_characters : flat_map escape (0 ∷ 10 ∷ 31 ∷ 127 ∷ []) ≡ codes "\\00\\0a\\1f\\7f"
control_characters = refl

-- 127 is written by its number, and neither its neighbours are nor what is between the space and the backslash
first_plain : is_escaped 33 ≡ false
first_plain = refl

last_plain : is_escaped 126 ≡ false
last_plain = refl

delete : is_escaped 127 ≡ true
delete = refl

beyond : is_escaped 128 ≡ false
beyond = refl
