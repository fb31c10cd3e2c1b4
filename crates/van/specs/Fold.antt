-- The lines of the van printer, "a printer of 6 lines by 36 columns", and how bytes are folded into them.
-- Assumes nothing.
use Rattle.std.specs.Prelude.{ℕ, zero, suc, ◌+◌, cond, List, [], ◌∷◌, ◌++◌, eqb, leb, length, get_or, take, drop}
use Rattle.label.specs.Label.{ended}

abbrev pub columns : ℕ
columns = 36

abbrev pub rows : ℕ
rows = 6

-- what stands behind a line in the bytes that it is of: "breaks (line end, space, none)"
pub data Break : Type 0 where
  line_end : Break
  space : Break
  none : Break

pub record Line : Type 0 where
  pub bytes : List ℕ
  pub behind : Break

abbrev pub line : List ℕ → Break → Line
line bytes behind = record { bytes = bytes; behind = behind }

-- a byte before lines is the first of their first
abbrev pub onto : ℕ → List Line → List Line
onto b [] = line (b ∷ []) none ∷ []
onto b (l ∷ ls) = line (b ∷ l.bytes) l.behind ∷ ls

-- the lines of any bytes: each ends with byte 10; "Bytes behind the last line end count as a line"
unfoldable pub lines_in : List ℕ → List Line
lines_in [] = []
lines_in (b ∷ text) = cond (eqb b 10) (line [] line_end ∷ lines_in text) (onto b (lines_in text))

-- "the last space with 1 to 36 bytes before it": how many these are, from n down; 0 where there is no such space
unfoldable pub space_within : (n : ℕ) → List ℕ → ℕ
space_within zero bytes = 0
space_within (suc n) bytes = cond (eqb (get_or bytes (suc n) 0) 32) (suc n) (space_within n bytes)

-- how many bytes are printed before a break at this space, "or at 36 where there is none", and how many are done with it:
-- "that space is not printed"
abbrev pub printed_at : (space : ℕ) → ℕ
printed_at k = cond (eqb k 0) columns k

abbrev pub done_at : (space : ℕ) → ℕ
done_at k = cond (eqb k 0) columns (k + 1)

abbrev pub break_at : (space : ℕ) → Break
break_at k = cond (eqb k 0) none space

-- the first line of bytes that are too long for one, and what is left
abbrev pub first_of : List ℕ → Line
first_of bytes = line (take (printed_at (space_within columns bytes)) bytes) (break_at (space_within columns bytes))

abbrev pub left_of : List ℕ → List ℕ
left_of bytes = drop (done_at (space_within columns bytes)) bytes

-- "while it is longer than 36, it breaks ..; what is left is folded the same way (also where nothing is left behind a
-- break: an empty line ..)", with so many breaks at most
unfoldable pub fold_by : (most : ℕ) → Line → List Line
fold_by zero l = l ∷ []
fold_by (suc n) l =
    cond (leb (length l.bytes) columns) (l ∷ [])
    (first_of l.bytes ∷ fold_by n (line (left_of l.bytes) l.behind))

-- no line has more breaks than bytes
abbrev pub fold_line : Line → List Line
fold_line l = fold_by (length l.bytes) l

-- "each line of the label is folded by itself"
abbrev pub fold_all : List Line → List Line
fold_all [] = []
fold_all (l ∷ ls) = fold_line l ++ fold_all ls

unfoldable pub folded : (text : List ℕ) → List Line
folded text = fold_all (lines_in text)

abbrev pub texts : List Line → List (List ℕ)
texts [] = []
texts (l ∷ ls) = l.bytes ∷ texts ls

-- "Every folded line ends with byte 10"
unfoldable pub folded_bytes : (text : List ℕ) → List ℕ
folded_bytes text = ended (texts (folded text))

-- "breaks .. and printed bytes together give the bytes back"
abbrev pub break_bytes : Break → List ℕ
break_bytes line_end = 10 ∷ []
break_bytes space = 32 ∷ []
break_bytes none = []

abbrev pub given_back : List Line → List ℕ
given_back [] = []
given_back (l ∷ ls) = l.bytes ++ (break_bytes l.behind ++ given_back ls)
