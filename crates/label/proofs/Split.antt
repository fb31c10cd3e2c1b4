-- A label is its organisation and department lines, followed by the label with both absent.
-- Assumes nothing.
use mathlib.Core.Path.{◌≡◌, sym, ap, ◌∙◌}
use mathlib.Core.List.{◌++◌, append_assoc}
use Rattle.source.specs.Address.{Elements}
use Rattle.label.specs.Lines.{line, lines_of}
use Rattle.label.specs.Label.{ended, label_of}
use Rattle.label.specs.Widths.{without}
use Rattle.label.proofs.Places.{ended-append}

lines_split : (e : Elements) → lines_of e ≡ line e.organisation ++ line e.department ++ lines_of (without e)
unfolding lines_of
lines_split e = sym (append_assoc (line e.organisation) (line e.department) (lines_of (without e)))

pub label-splits : (e : Elements)
    → label_of e ≡ ended (line e.organisation ++ line e.department) ++ label_of (without e)
unfolding label_of
label-splits e =
    ap ended (lines_split e)
    ∙ ended-append (line e.organisation ++ line e.department) (lines_of (without e))
