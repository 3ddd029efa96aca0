-- The files that the devices of lanes are in.
use Rattle.std.specs.Prelude.{ℕ, List, [], ◌∷◌, ◌++◌, codes}
use Rattle.std.specs.Fmt.{decimal}

-- the file of a lane
abbrev pub name_of : ℕ → List ℕ
name_of lane = codes "lane-" ++ (decimal lane ++ codes ".dev")

-- the same with its folder, if the folder has a name; without one it is the current folder
abbrev pub path_of : List ℕ → ℕ → List ℕ
path_of [] lane = name_of lane
path_of (byte ∷ bytes) lane = (byte ∷ bytes) ++ (codes "/" ++ name_of lane)
