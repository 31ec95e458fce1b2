use lib.ListN.{length}
use Rattle.layout.specs.Bytes.{columns_in}
use Rattle.layout.specs.Buffers.{buffers}
use Rattle.packing.proofs.FileFill.{FillingAll}
use Rattle.packing.proofs.fill.fill_rows.Given as goal

abbrev pub invariant-loop-row : goal.invariant-loop-row
invariant-loop-row l =
    FillingAll l.form l.bytes l.n (buffers l.initial.starts l.initial.columns l.initial.rates) (length (columns_in l.form l.bytes l.n l.n 1))
    (buffers l.starts l.columns l.rates) l.row l.at.place l.at.entry
