-- What the readers of the code give, seen as reading at a place.
use Rattle.std.specs.Prelude.{◌≡◌, Result, Ok, Err}
use Rattle.trace_file.specs.declared.cursor.Cursor.{Cursor}
use Rattle.trace_file.specs.declared.item_fault.ItemFault.{ItemFault}
use Rattle.trace_file.specs.Reading.{Place, place}

-- the place where a cursor stands
abbrev pub shown : Cursor → Place
shown c = place c.at c.bytes.now

-- what a reader gave, seen by view, is what reading at its place gives
abbrev pub Gives : {X Y : Type 0} → (X → Y) → Result X ItemFault → Result Y ItemFault → Type 0
Gives view (Ok x) read = read ≡ Ok (view x)
Gives view (Err e) read = read ≡ Err e
