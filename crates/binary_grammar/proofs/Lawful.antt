-- Every grammar is read as it says: bytes have one value, a break is one, and stays with more bytes behind it unless it is
-- that they end too soon.
use Rattle.binary_grammar.specs.Format as format
use Rattle.binary_grammar.specs.Format.{Format, Whole}
use Rattle.binary_grammar.specs.Judged.{passed}
use Rattle.binary_grammar.specs.Syntax.{Extent, unbounded, bounded, Syntax, one_byte, number, signed_number, some_bytes, some_name, gives, refuses, tested, judged, measured, part, times, up_to, sized, where_known, exactly, begins, everything, keeping, seen, steps, Faces, then_in, meaning}
use Rattle.binary_grammar.proofs.Laws.{Law, WholeLaw, bind_law, yield_law, refuse_law, such_law, byte_law, chunk_law, exactly_law, begins_law, everything_law, keeping_law, sized_law}
use Rattle.binary_grammar.proofs.Numbers.{u32_law}
use Rattle.binary_grammar.proofs.FormatLaws.{name_law}
use Rattle.binary_grammar.proofs.Judged.{weigh_law, then_all_law, seen_as_law}
use Rattle.binary_grammar.proofs.Several.{series_law, up_to_law, to_end_law, behind_a_byte}
use Rattle.binary_grammar.proofs.Signed.{signed_law}

abbrev pub Lawful : (e : Extent) (X : Type 0) → Faces e X → Type 0
Lawful unbounded X f = Law f
Lawful bounded X w = WholeLaw w

then_in_law : (e : Extent) (A B : Type 0) (f : Format A) (g : A → Faces e B) → Law f → ((a : A) → Lawful e B (g a)) → Lawful e B (then_in e A B f g)
then_in_law unbounded A B f g lf lg = bind_law f g lf lg
then_in_law bounded A B f g lf lg = then_all_law f g lf lg

pub lawful : {e : Extent} {C X : Type 0} (s : Syntax e C X) (there : C) → Lawful e X (meaning s there)
lawful one_byte there = byte_law
lawful number there = u32_law
lawful (signed_number bits) there = signed_law bits
lawful (some_bytes n) there = chunk_law n
lawful some_name there = name_law
lawful (gives x) there = yield_law x
lawful (refuses rule) there = refuse_law rule
lawful (tested rule test s) there = such_law rule (test there) (meaning s there) (lawful s there)
lawful (judged judge view s) there = weigh_law (λ _ x. judge there x) (meaning s there) (lawful s there)
lawful (measured rule test s) there = weigh_law (λ size x. passed rule (test size x) x) (meaning s there) (lawful s there)
lawful (part {e = e} {A = A} {B = B} s view next) there = then_in_law e A B (meaning s there) (λ a. meaning (next a) there) (lawful s there) (λ a. lawful (next a) there)
lawful (times grow s n) there = series_law (meaning s) grow (lawful s) n there
lawful (up_to last which next) there = up_to_law last (λ b. meaning (next b) there) (λ b. lawful (next b) there)
lawful (sized s) there = bind_law format.u32 (λ n. format.sized (meaning s there) n) u32_law (λ n. sized_law (meaning s there) (lawful s there) n)
lawful (where_known known s) there = lawful s (known there)
lawful (exactly s) there = exactly_law (meaning s there) (lawful s there)
lawful (begins s) there = begins_law (meaning s there) (lawful s there)
lawful everything there = everything_law
lawful (keeping s) there = keeping_law (meaning s there) (λ x bytes. (x, bytes)) (lawful s there)
lawful (seen make view s) there = seen_as_law make (meaning s there) (lawful s there)
lawful (steps grow which next) there =
    to_end_law (λ t. format.◌>>=◌ format.byte (λ b. meaning (next b) t)) grow (λ t. bind_law format.byte (λ b. meaning (next b) t) byte_law (λ b. lawful (next b) t))
    (λ t bytes x h. behind_a_byte (λ b. meaning (next b) t) bytes x h) there
