-- Demand 2 for labels: what printing one comes to, case by case, over any source and of a pack; what a suffix and a sector
-- of a pack are; what an item of a listing holds; what the list of codes says; how long a label is, and how no line of it
-- begins.
-- Assumes nothing.
use Rattle.std.specs.Prelude.{ℕ, ◌*◌, ◌≤◌, ◌<◌, ◌≡◌, Bool, false, List, [], ◌∷◌, ◌++◌, ◌⊎◌, length, drop}
use Rattle.std.proofs.Math.Option.{Option, none, some}
use Rattle.field.specs.Test.{within}
use Rattle.field_outward.specs.Outward.{outward_fault}
use Rattle.field_outward.specs.Inward.{suffix_fault}
use Rattle.refusal.specs.declared.Reason.{Reason}
use Rattle.refusal.specs.declared.Reason.TheVariants.{NoSuchNumber, Combination, MissingKey, Room, BadCode, NoSuffix, BadDigit}
use Rattle.refusal.specs.Outcome.{Outcome, said}
use Rattle.source.specs.Address.{Lookup, Address, Elements}
use Rattle.source.specs.Resolve.{forbidden, missing, elements_of}
use Rattle.source.specs.Same.{AllOf}
use Rattle.file.specs.Check.{Format, checked}
use Rattle.file.specs.Formats.{table_format, point_format}
use Rattle.file.specs.Mainfile.{addresses}
use Rattle.file.specs.Accepted.{Accepted}
use Rattle.label.specs.Lines.{lines_of}
use Rattle.label.specs.Label.{label_of}
use Rattle.label.specs.Widths.{NoneAbove}
use Rattle.item.specs.Lines.{refused_word, spaced_number, point_line}
use Rattle.run.specs.Series.{Asking, run_from}
use Rattle.ask.specs.Source.{Source, in_code}
use Rattle.ask.specs.Labels.{kth, view_label, code_label}
use Rattle.pack.specs.Sectors.{in_sector, sector_counts, total}
use Rattle.pack.specs.Opening.{edition, suffix_in, point_digits, count_said, opened}
use Rattle.pack.specs.Points.{elements_at, point_place, pack_label, suffix_number, pack_suffix, pack_sector}
use Rattle.tally.specs.Tally.{Entry}
use Rattle.tally_bytes.specs.Entries.{entry_bytes}
use Rattle.changes_codes.specs.Codes.{codes_in, codes_outcome}
use Rattle.changes_codes.specs.Told.{Told}
use Rattle.mainfile_codes.specs.Codes as MainCodes
use Rattle.mainfile_codes.specs.Told as MainTold
use Rattle.std.specs.Prelude.{Ok, Err}
use Rattle.refusal.specs.Answer.{Answer, refusal}
use Rattle.run.specs.Series.{Series}

-- ---- what is written

-- a text that fits stands in front of the buffer, "bytes behind the label keep their values", and the answer is how many it has
abbrev pub written : (text out : List ℕ) → Outcome Answer
written text out = said (Ok (length text)) (text ++ drop (length text) out)

-- "10: lent buffer shorter than the label .. bytes needed"
abbrev pub too_short : (text out : List ℕ) → Outcome Answer
too_short text out = said (refusal 0 (Room (length text))) out

-- ---- a label of a source

-- neither "a missing key" nor "a forbidden combination"
abbrev pub Printed : Lookup → Address → Type 0
Printed look a = (forbidden a ≡ 0) × (missing look a ≡ 0)

abbrev pub label_for : Lookup → Address → List ℕ
label_for look a = label_of (elements_of look a)

-- the k-th of some delivery points, files and code being accepted: "7, 8, 9, 10, lowest detail first"
pub data Printing (look : Lookup) (views : List Address) (k : ℕ) (out : List ℕ) (o : Outcome Answer) : Type 0 where
  no_number : kth views k ≡ none
      → o ≡ said (refusal 0 NoSuchNumber) out
      → Printing look views k out o
  forbidden_mix : (a : Address) → kth views k ≡ some a → (forbidden a ≡ 0 → ⊥)
      → o ≡ said (refusal 0 (Combination (forbidden a) 0)) out
      → Printing look views k out o
  key_missing : (a : Address) → kth views k ≡ some a → forbidden a ≡ 0 → (missing look a ≡ 0 → ⊥)
      → o ≡ said (refusal 0 (MissingKey (missing look a) 0)) out
      → Printing look views k out o
  no_room : (a : Address) → kth views k ≡ some a → Printed look a → length out < length (label_for look a)
      → o ≡ too_short (label_for look a) out
      → Printing look views k out o
  printed : (a : Address) → kth views k ≡ some a → Printed look a → length (label_for look a) ≤ length out
      → o ≡ written (label_for look a) out
      → Printing look views k out o

-- of a view: the files first
pub data ViewAsked (s : Source) (view : ℕ) (out : List ℕ) : Type 0 where
  files_refused : {file : ℕ} {why : Reason} → s.judged ≡ refusal file why
      → view_label s view out ≡ said (refusal file why) out
      → ViewAsked s view out
  taken : {n : ℕ} → s.judged ≡ Ok n
      → Printing s.look s.views view out (view_label s view out)
      → ViewAsked s view out

-- of the k-th live view in a code: "12 where a code is given"
pub data CodeAsked (s : Source) (code : List ℕ) (k : ℕ) (out : List ℕ) : Type 0 where
  files_refused : {file : ℕ} {why : Reason} → s.judged ≡ refusal file why
      → code_label s code k out ≡ said (refusal file why) out
      → CodeAsked s code k out
  code_refused : {n : ℕ} → s.judged ≡ Ok n → (outward_fault code ≡ 0 → ⊥)
      → code_label s code k out ≡ said (refusal 0 BadCode) out
      → CodeAsked s code k out
  taken : {n : ℕ} → s.judged ≡ Ok n → outward_fault code ≡ 0
      → Printing s.look (in_code code s.live) k out (code_label s code k out)
      → CodeAsked s code k out

-- ---- a label of a pack

abbrev pub label_at : (pack : List ℕ) → (k : ℕ) → List ℕ
label_at pack k = label_of (elements_at pack (point_place pack k))

-- "Labels from a pack: 11, 7, 10"
pub data PointAsked (pack : List ℕ) (k : ℕ) (out : List ℕ) : Type 0 where
  pack_refused : {file : ℕ} {why : Reason} → opened pack ≡ refusal file why
      → pack_label pack k out ≡ said (refusal file why) out
      → PointAsked pack k out
  no_number : {n : ℕ} → opened pack ≡ Ok n → (k < 1) ⊎ (n < k)
      → pack_label pack k out ≡ said (refusal 0 NoSuchNumber) out
      → PointAsked pack k out
  no_room : {n : ℕ} → opened pack ≡ Ok n → 1 ≤ k → k ≤ n → length out < length (label_at pack k)
      → pack_label pack k out ≡ too_short (label_at pack k) out
      → PointAsked pack k out
  printed : {n : ℕ} → opened pack ≡ Ok n → 1 ≤ k → k ≤ n → length (label_at pack k) ≤ length out
      → pack_label pack k out ≡ written (label_at pack k) out
      → PointAsked pack k out

-- ---- a suffix of a pack

abbrev pub suffix_at : (pack : List ℕ) → (k : ℕ) → List ℕ
suffix_at pack k = suffix_in pack (point_place pack k)

-- 11, 7, "13, no suffix in this edition, after 7": "Packs of edition 1 still open .. asking one for a suffix is refused"; of
-- editions 2 and 3 there is one, "digit, letter A to Z"
pub data SuffixAsked (pack : List ℕ) (k : ℕ) : Type 0 where
  pack_refused : {file : ℕ} {why : Reason} → opened pack ≡ refusal file why
      → pack_suffix pack k ≡ refusal file why
      → SuffixAsked pack k
  no_number : {n : ℕ} → opened pack ≡ Ok n → (k < 1) ⊎ (n < k)
      → pack_suffix pack k ≡ refusal 0 NoSuchNumber
      → SuffixAsked pack k
  no_suffix : {n : ℕ} → opened pack ≡ Ok n → 1 ≤ k → k ≤ n → edition pack ≡ 1
      → pack_suffix pack k ≡ refusal 0 NoSuffix
      → SuffixAsked pack k
  told : {n : ℕ} → opened pack ≡ Ok n → 1 ≤ k → k ≤ n → (edition pack ≡ 2) ⊎ (edition pack ≡ 3)
      → suffix_fault (suffix_at pack k) ≡ 0
      → pack_suffix pack k ≡ Ok (suffix_number (suffix_at pack k))
      → SuffixAsked pack k

-- ---- a sector of a pack

-- 11, then "27, inward digit above 9"; the answer "equals counting all points", and in edition 3 the trailer says the same
pub data SectorAsked (pack : List ℕ) (digit : ℕ) : Type 0 where
  pack_refused : {file : ℕ} {why : Reason} → opened pack ≡ refusal file why
      → pack_sector pack digit ≡ refusal file why
      → SectorAsked pack digit
  no_digit : {n : ℕ} → opened pack ≡ Ok n → 9 < digit
      → pack_sector pack digit ≡ refusal 0 BadDigit
      → SectorAsked pack digit
  counted : {n : ℕ} → opened pack ≡ Ok n → digit ≤ 9
      → (edition pack ≡ 3 → count_said pack digit ≡ in_sector digit (point_digits pack))
      → pack_sector pack digit ≡ Ok (in_sector digit (point_digits pack))
      → SectorAsked pack digit

-- the ten counts together are the points
abbrev pub SectorsTogether : (pack : List ℕ) → Type 0
SectorsTogether pack = (n : ℕ) → opened pack ≡ Ok n → total (sector_counts (point_digits pack)) ≡ n

-- ---- an item of a listing

-- "the line `refused n d`"
abbrev pub refused_as : (n d : ℕ) → List ℕ
refused_as n d = refused_word ++ (spaced_number n ++ (spaced_number d ++ (10 ∷ [])))

-- what stands under the heading: "the label or the line `refused n d`", 8 with its rule or 9 with its field
pub data Under (look : Lookup) (a : Address) (text : List ℕ) : Type 0 where
  a_label : Printed look a → text ≡ label_for look a → Under look a text
  a_rule : (forbidden a ≡ 0 → ⊥) → text ≡ refused_as 8 (forbidden a) → Under look a text
  a_field : forbidden a ≡ 0 → (missing look a ≡ 0 → ⊥) → text ≡ refused_as 9 (missing look a) → Under look a text

-- the item of the k-th of some delivery points: "It stops with 7 where no such view is left and with 10 before the first
-- that does not fit in what is left (its own bytes needed)"
pub data ItemAsked (heading : Address → List ℕ) (look : Lookup) (views : List Address) (k : ℕ) (out : List ℕ) (o : Outcome Answer) : Type 0 where
  no_number : kth views k ≡ none
      → o ≡ said (refusal 0 NoSuchNumber) out
      → ItemAsked heading look views k out o
  no_room : (a : Address) (text : List ℕ) → kth views k ≡ some a → Under look a text
      → length out < length (heading a ++ text)
      → o ≡ too_short (heading a ++ text) out
      → ItemAsked heading look views k out o
  listed : (a : Address) (text : List ℕ) → kth views k ≡ some a → Under look a text
      → length (heading a ++ text) ≤ length out
      → o ≡ written (heading a ++ text) out
      → ItemAsked heading look views k out o

-- of a pack that opens with n points, which has no refused label: "the line `point K` and the label"
pub data PointListed (pack : List ℕ) (n k : ℕ) (out : List ℕ) (o : Outcome Answer) : Type 0 where
  no_number : (k < 1) ⊎ (n < k)
      → o ≡ said (refusal 0 NoSuchNumber) out
      → PointListed pack n k out o
  no_room : 1 ≤ k → k ≤ n → length out < length (point_line k ++ label_at pack k)
      → o ≡ too_short (point_line k ++ label_at pack k) out
      → PointListed pack n k out o
  listed : 1 ≤ k → k ≤ n → length (point_line k ++ label_at pack k) ≤ length out
      → o ≡ written (point_line k ++ label_at pack k) out
      → PointListed pack n k out o

-- "answer, `*bytes` and memory as for runs": a listing asks for its items in turn, each in what is left of the buffer
pub record InTurn (Asked : ℕ → List ℕ → Outcome Answer → Type 0) (listing : ℕ → ℕ → List ℕ → Outcome Series) : Type 0 where
  pub item : Asking
  pub each : (k : ℕ) (out : List ℕ) → Asked k out (item k out)
  pub in_turn : (first count : ℕ) (out : List ℕ) → listing first count out ≡ run_from item first count out

-- ---- the list of codes

-- "the outward codes with live views, rising, each 4 bytes and its count in 4 bytes, most significant first; value: how
-- many codes; refusals 1 to 6, then 10": of a file, the entries of its codes, and what these tell of it
pub data CodesAsked (f : Format) (file : List ℕ) (Telling : List Entry → Type 0) (es : List Entry) (out : List ℕ) (o : Outcome Answer) : Type 0 where
  file_refused : {blamed : ℕ} {why : Reason} → checked f file ≡ refusal blamed why
      → o ≡ said (refusal blamed why) out
      → CodesAsked f file Telling es out o
  no_room : Accepted f file → Telling es → length out < 8 * length es
      → o ≡ said (refusal 0 (Room (8 * length es))) out
      → CodesAsked f file Telling es out o
  listed : Accepted f file → Telling es → 8 * length es ≤ length out
      → o ≡ said (Ok (length es)) (entry_bytes es ++ drop (8 * length es) out)
      → CodesAsked f file Telling es out o

-- of a point file: `Told` says that these are the codes, each once with its live views, and no other
abbrev pub CodesOfPoints : (points out : List ℕ) → Type 0
CodesOfPoints points out =
    CodesAsked point_format points (Told points) (codes_in points) out (codes_outcome points out)

-- of an address file the same, "Every address counts as live."
abbrev pub CodesOfAddresses : (file out : List ℕ) → Type 0
CodesOfAddresses file out =
    CodesAsked addresses file (MainTold.Told file) (MainCodes.codes_in file) out (MainCodes.codes_outcome file out)

-- ---- exactly where there is a label

-- there is a value exactly where something holds, and then this text is written
pub record Exactly (Where : Type 0) (text out : List ℕ) (o : Outcome Answer) : Type 0 where
  pub only : {n : ℕ} → o.answer ≡ Ok n → Where
  pub then : Where → o ≡ written text out

-- an answer that is a value
abbrev pub IsValue : Answer → Type 0
IsValue (Ok n) = Unit {0}
IsValue (Err r) = ⊥

-- files that are accepted: of any source, those that are answered with a value; of a pair, both
abbrev pub Taken : Source → Type 0
Taken s = IsValue s.judged

abbrev pub BothAccepted : (table points : List ℕ) → Type 0
BothAccepted table points = Accepted table_format table × Accepted point_format points

-- there is such a number, rules 8 and 9 are satisfied, and the buffer has room
abbrev pub Prints : Lookup → Option Address → (out : List ℕ) → Type 0
Prints look none out = ⊥
Prints look (some a) out = Printed look a × (length (label_for look a) ≤ length out)

abbrev pub text_for : Lookup → Option Address → List ℕ
text_for look none = []
text_for look (some a) = label_for look a

-- the label of a view, and of the k-th live view in a code, where files are accepted
abbrev pub ViewExactly : (Files : Type 0) → Source → (view : ℕ) → (out : List ℕ) → Type 0
ViewExactly Files s view out =
    Exactly (Files × Prints s.look (kth s.views view) out)
    (text_for s.look (kth s.views view))
    out
    (view_label s view out)

abbrev pub CodeExactly : (Files : Type 0) → Source → (code : List ℕ) → (k : ℕ) → (out : List ℕ) → Type 0
CodeExactly Files s code k out =
    Exactly (Files × ((outward_fault code ≡ 0) × Prints s.look (kth (in_code code s.live) k) out))
    (text_for s.look (kth (in_code code s.live) k))
    out
    (code_label s code k out)

-- a pack that opens has a point of that number, and the buffer has room
abbrev pub PointPrints : (pack : List ℕ) → (k : ℕ) → (out : List ℕ) → Answer → Type 0
PointPrints pack k out (Ok n) = (1 ≤ k) × ((k ≤ n) × (length (label_at pack k) ≤ length out))
PointPrints pack k out (Err r) = ⊥

abbrev pub PointExactly : (pack : List ℕ) → (k : ℕ) → (out : List ℕ) → Type 0
PointExactly pack k out =
    Exactly (PointPrints pack k out (opened pack)) (label_at pack k) out (pack_label pack k out)

-- ---- how long a label is

-- "A label has at most 11 lines and 499 bytes, no line above 163 without its end."
pub record Bounded (e : Elements) : Type 0 where
  pub lines : length (lines_of e) ≤ 11
  pub bytes : length (label_of e) ≤ 499
  pub each : NoneAbove 163 (lines_of e)

-- each view of a source, and so each live one
abbrev pub AllBounded : Lookup → List Address → Type 0
AllBounded look = AllOf (λ a. Bounded (elements_of look a))

-- each point of a pack that opens
abbrev pub PointsBounded : (pack : List ℕ) → Type 0
PointsBounded pack = (n k : ℕ) → opened pack ≡ Ok n → 1 ≤ k → k ≤ n → Bounded (elements_at pack (point_place pack k))

-- ---- how no line begins

-- "Text has bytes 32 to 126 without small letters"
abbrev pub begins_small : List ℕ → Bool
begins_small [] = false
begins_small (x ∷ xs) = within 97 122 x

abbrev pub NoneSmall : List (List ℕ) → Type 0
NoneSmall [] = Unit {0}
NoneSmall (l ∷ ls) = (begins_small l ≡ false) × NoneSmall ls

-- no line of a label of a source, or of a pack that opens, begins with a small letter
abbrev pub ViewsCapital : Lookup → List Address → Type 0
ViewsCapital look = AllOf (λ a. NoneSmall (lines_of (elements_of look a)))

abbrev pub PointsCapital : (pack : List ℕ) → Type 0
PointsCapital pack =
    (n k : ℕ) → opened pack ≡ Ok n → 1 ≤ k → k ≤ n → NoneSmall (lines_of (elements_at pack (point_place pack k)))
