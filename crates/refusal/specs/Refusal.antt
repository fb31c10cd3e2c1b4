-- Document 01's "Numbered refusals" and those of document 02, by cases of the reason. Every promise about a refusal is stated through these.
-- Assumes nothing.
use Rattle.std.specs.Prelude.{ℕ}
use Rattle.refusal.specs.declared.Reason.{Reason}
use Rattle.refusal.specs.declared.Reason.TheVariants.{Length, Header, Trailer, Malformed, NotAbove, Follower, NoSuchNumber, Combination, MissingKey, Room, BadPack, BadCode, NoSuffix, BadRow, Uncarried, BadDigit, Later}
use Rattle.refusal.specs.declared.LaterReason.{LaterReason}
use Rattle.refusal.specs.declared.LaterReason.TheVariants.{InsertedTwice, NotPresent, Unpaired, NoFreeSlot, NotABook}

-- "17 inserted twice; 18 not present; 19 B without its C, or a C named; 20 all slots in use; 28 not a book" (document 02,
-- No. 10)
abbrev pub later_number : LaterReason → ℕ
later_number InsertedTwice = 17
later_number NotPresent = 18
later_number Unpaired = 19
later_number NoFreeSlot = 20
later_number NotABook = 28

-- column "no."; "13, no suffix in this edition" (document 02, No. 6); "14 row malformed, with row and field; 15 field longer
-- than the guide allows, or with a comma or quote its quoting can't carry" (No. 8); "27, inward digit above 9" (No. 7)
abbrev pub number : Reason → ℕ
number Length = 1
number Header = 2
number (Trailer last) = 3
number (Malformed at byte) = 4
number (NotAbove at) = 5
number (Follower at) = 6
number NoSuchNumber = 7
number (Combination rule view) = 8
number (MissingKey field view) = 9
number (Room needed) = 10
number (BadPack step) = 11
number BadCode = 12
number NoSuffix = 13
number (BadRow row field) = 14
number Uncarried = 15
number BadDigit = 27
number (Later why) = later_number why

-- column "detail"; "No detail named means 0"
abbrev pub detail : Reason → ℕ
detail Length = 0
detail Header = 1
detail (Trailer last) = last
detail (Malformed at byte) = at
detail (NotAbove at) = at
detail (Follower at) = at
detail NoSuchNumber = 0
detail (Combination rule view) = rule
detail (MissingKey field view) = field
detail (Room needed) = needed
detail (BadPack step) = step
detail BadCode = 0
detail NoSuffix = 0
detail (BadRow row field) = row
detail Uncarried = 0
detail BadDigit = 0
detail (Later why) = 0

-- "refusal 4 then carries record and byte of the record" (document 02, No. 1); "Building: .. the label's 8 or 9 of the first
-- live view in that code that has one, together with its view number"
abbrev pub second : Reason → ℕ
second Length = 0
second Header = 0
second (Trailer last) = 0
second (Malformed at byte) = byte
second (NotAbove at) = 0
second (Follower at) = 0
second NoSuchNumber = 0
second (Combination rule view) = view
second (MissingKey field view) = view
second (Room needed) = 0
second (BadPack step) = 0
second BadCode = 0
second NoSuffix = 0
second (BadRow row field) = field
second Uncarried = 0
second BadDigit = 0
second (Later why) = 0

-- refusal 4 of a record, with the byte of its first fault
abbrev pub malformed_at : ℕ → ℕ → Reason
malformed_at at byte = Malformed at byte

-- the same refusal "together with its view number"; only 8 and 9 have one
abbrev pub with_view : ℕ → Reason → Reason
with_view view Length = Length
with_view view Header = Header
with_view view (Trailer last) = Trailer last
with_view view (Malformed at byte) = Malformed at byte
with_view view (NotAbove at) = NotAbove at
with_view view (Follower at) = Follower at
with_view view NoSuchNumber = NoSuchNumber
with_view view (Combination rule other) = Combination rule view
with_view view (MissingKey field other) = MissingKey field view
with_view view (Room needed) = Room needed
with_view view (BadPack step) = BadPack step
with_view view BadCode = BadCode
with_view view NoSuffix = NoSuffix
with_view view (BadRow row field) = BadRow row field
with_view view Uncarried = Uncarried
with_view view BadDigit = BadDigit
with_view view (Later why) = Later why
