-- The lines that stand between labels: the heading of a view or a point, and the line of a refusal.
-- Assumes nothing.
use Rattle.std.specs.Prelude.{ℕ, zero, suc, ◌+◌, ◌/◌, ◌%◌, cond, List, [], ◌∷◌, ◌++◌, eqb, ltb}
use Rattle.refusal.specs.declared.Reason.{Reason}
use Rattle.refusal.specs.Refusal.{number, detail, second}

-- the words `view`, `point`, `refused`
abbrev pub view_word : List ℕ
view_word = 118 ∷ 105 ∷ 101 ∷ 119 ∷ []

abbrev pub point_word : List ℕ
point_word = 112 ∷ 111 ∷ 105 ∷ 110 ∷ 116 ∷ []

abbrev pub refused_word : List ℕ
refused_word = 114 ∷ 101 ∷ 102 ∷ 117 ∷ 115 ∷ 101 ∷ 100 ∷ []

-- a number in decimal digits without leading zeros; the first argument is one less than the most digits
abbrev pub decimal_in : ℕ → ℕ → List ℕ
decimal_in zero n = (48 + n % 10) ∷ []
decimal_in (suc most) n = cond (ltb n 10) ((48 + n) ∷ []) (decimal_in most (n / 10) ++ ((48 + n % 10) ∷ []))

-- the number n has at most n + 1 digits
unfoldable pub decimal : ℕ → List ℕ
decimal n = decimal_in n n

-- a space and a number
abbrev pub spaced_number : ℕ → List ℕ
spaced_number n = 32 ∷ decimal n

-- a word and a number
abbrev pub worded : (word : List ℕ) → ℕ → List ℕ
worded word n = word ++ (spaced_number n ++ (10 ∷ []))

-- "For each view: `view`, number, letter"
unfoldable pub view_line : (view letter : ℕ) → List ℕ
view_line view letter = view_word ++ (spaced_number view ++ (32 ∷ letter ∷ 10 ∷ []))

-- "the line `point K`"
unfoldable pub point_line : ℕ → List ℕ
point_line k = point_word ++ (spaced_number k ++ (10 ∷ []))

-- "refusal 4 then carries record and byte of the record .. and the program prints it last" (document 02, No. 1)
unfoldable pub byte_text : (number second : ℕ) → List ℕ
byte_text number second = cond (eqb number 4) (spaced_number second) []

-- "`refused`, number, detail", and that byte
unfoldable pub refused_text : (number detail second : ℕ) → List ℕ
refused_text number detail second =
    refused_word ++ (spaced_number number ++ (spaced_number detail ++ (byte_text number second ++ (10 ∷ []))))

abbrev pub refused_line : Reason → List ℕ
refused_line why = refused_text (number why) (detail why) (second why)
