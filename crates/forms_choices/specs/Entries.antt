-- The table of the sums of each five rows of a table of chunks, and the entries of it that the bits of bytes choose.
--   fives == the fives of the most equations of a block;  most_sums == the bytes of
--     the longest table of sums: of 32 entries for each of these fives
--   two_sixteens == the bytes of two sixteens of fives, eight rows each;  picks_bytes == the bytes of the numbers of all
--     fives, for each bit of a byte, with room for ten where the last two begin
--   entry_byte S k f == byte f of entry k of the table of sums: of the rows 5·⌊k/32⌋ + s, s < 5, those with bit s of k
--     mod 32 set
--   Tabled S sums count == sums holds the first count entries, one after the other
--   choice χ p g == the number that bit p of each of the bytes χ(5·g), .., χ(5·g + 4) writes, the first lowest
--   in_rows R i == byte i of two sixteens of fives, which R holds in eight rows each: row z has byte z of each five
--   five w j == five j of the word w: the number that its bits 5·j, .., 5·j + 4 write
--   three_fives == the weight of the fourth five of a word: three stand below it
--   fives_word P at == the word of the ten fives that P has from at on
--   row_five W r g == five g of row r of W: a row is four words, of ten fives each, and has 32: the last eight of the
--     fourth word are not its own
--   up_to m f i == f(i) for the first m, and 0 past them
--   IsBytes χ == each χ(e, i) is a byte
--   Chosen χ m W r == five g of row r of W, g < 32, is the number of the entry, among the 32 of the rows 5·g, .., 5·g +
--     4, which bit r mod 8 of the m bytes χ(e, 0), .., χ(e, m - 1) of repetition e = ⌊r/8⌋ chooses; those past them
--     count as 0
--   ChosenAll χ m τ W == Chosen for each of the eight rows of each of τ repetitions;  WordsFit τ W == W has room for
--     these rows
--   word_byte sums k n w f == byte f of the sum of the entries that the first n fives of w choose, in the tables of the
--     groups 10·k, .., 10·k + n - 1
--   looked_up sums W r G f == byte f of the sum of the entries that the first G fives of row r of W choose
--   InWords G == G fives are whole words of ten, three at most, or all 32
--   GroupsFor m G == the same, and they are enough for m rows
--   Weighed S χ m sums W G r == the first 32·G entries of sums are those of the m rows S, m ≤ 5·G, χ is bytes below m,
--     and the eight rows of W from r on hold, for G fives, the entries which the bits of χ choose
-- Assumes nothing.
use Rattle.std.specs.Prelude.{◌≡◌, cond, List, ℕ, ◌+◌, ◌*◌, ◌/◌, ◌%◌, ◌^◌, ◌≤◌, ◌<◌, ltb, length}
use Rattle.strings.specs.Sums.{byte_at, bit_of, xor_sum, byte_values}
use Rattle.chunks.specs.Chunks.{most_block, chunk, cell_at}

abbrev pub fives : ℕ
fives = most_block / 5

abbrev pub most_sums : ℕ
most_sums = fives * 32 * chunk

abbrev pub two_sixteens : ℕ
two_sixteens = 2 * 128

abbrev pub picks_bytes : ℕ
picks_bytes = 8 * fives + 8

abbrev pub entry_byte : List ℕ → ℕ → ℕ → ℕ
entry_byte S k f = xor_sum 5 (λ s. bit_of (k % 32) s * cell_at S (k / 32 * 5 + s) f)

abbrev pub Tabled : List ℕ → List ℕ → ℕ → Type 0
Tabled S sums count = (k f : ℕ) → k < count → f < chunk → cell_at sums k f ≡ entry_byte S k f

unfoldable pub choice : (ℕ → ℕ) → ℕ → ℕ → ℕ
choice χ p g = bit_of (χ (g * 5)) p + bit_of (χ (g * 5 + 1)) p * 2 + bit_of (χ (g * 5 + 2)) p * 4 + bit_of (χ (g * 5 + 3)) p * 8 + bit_of (χ (g * 5 + 4)) p * 16

abbrev pub in_rows : List ℕ → ℕ → ℕ
in_rows R i = byte_at R (i / 80 * 128 + (i % 5 * 16 + i / 5 % 16))

unfoldable pub five : ℕ → ℕ → ℕ
five w j = w / 2 ^ (5 * j) % 32

abbrev pub three_fives : ℕ
three_fives = 32 * 1024

abbrev pub fives_word : List ℕ → ℕ → ℕ
fives_word P at =
    byte_at P at + byte_at P (at + 1) * 32 + byte_at P (at + 2) * 1024 + byte_at P (at + 3) * three_fives + (byte_at P (at + 4) + byte_at P (at + 5) * 32 + byte_at P (at + 6) * 1024 + byte_at P (at + 7) * three_fives) * 1048576
    + (byte_at P (at + 8) + byte_at P (at + 9) * 32) * 1099511627776

abbrev pub row_five : List ℕ → ℕ → ℕ → ℕ
row_five W r g = five (byte_at W (r * 4 + g / 10)) (g % 10)

unfoldable pub up_to : ℕ → (ℕ → ℕ) → ℕ → ℕ
up_to m f i = cond (ltb i m) (f i) 0

abbrev pub IsBytes : (ℕ → ℕ → ℕ) → Type 0
IsBytes χ = (e i : ℕ) → χ e i < byte_values

abbrev pub Chosen : (ℕ → ℕ → ℕ) → ℕ → List ℕ → ℕ → Type 0
Chosen χ m W r = (g : ℕ) → g < fives → row_five W r g ≡ choice (up_to m (χ (r / 8))) (r % 8) g

abbrev pub ChosenAll : (ℕ → ℕ → ℕ) → ℕ → ℕ → List ℕ → Type 0
ChosenAll χ m τ W = (r : ℕ) → r < τ * 8 → Chosen χ m W r

abbrev pub WordsFit : ℕ → List ℕ → Type 0
WordsFit τ W = τ * 8 * 4 ≤ length W

abbrev pub word_byte : List ℕ → ℕ → ℕ → ℕ → ℕ → ℕ
word_byte sums k n w f = xor_sum n (λ j. cell_at sums ((k * 10 + j) * 32 + five w j) f)

abbrev pub looked_up : List ℕ → List ℕ → ℕ → ℕ → ℕ → ℕ
looked_up sums W r G f = xor_sum G (λ g. cell_at sums (g * 32 + row_five W r g) f)

abbrev pub InWords : ℕ → Type 0
InWords G = (G ≤ fives) × (G ≤ 30 → G % 10 ≡ 0) × (30 < G → G ≡ fives)

abbrev pub GroupsFor : ℕ → ℕ → Type 0
GroupsFor m G = InWords G × (m ≤ G * 5)

abbrev pub Weighed : List ℕ → (ℕ → ℕ) → ℕ → List ℕ → List ℕ → ℕ → ℕ → Type 0
Weighed S χ m sums W G r = Tabled S sums (G * 32) × (length S ≡ m * chunk) × (m ≤ G * 5) × ((i : ℕ) → i < m → χ i < byte_values) × ((p g : ℕ) → p < 8 → g < G → row_five W (r + p) g ≡ choice χ p g)
