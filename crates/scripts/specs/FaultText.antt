-- What is wrong with a script, in words.
use Rattle.std.specs.Prelude.{ℕ, List, ◌++◌, codes, decimal}
use Rattle.scripts.specs.declared.text.ScriptFault.{ScriptFault}
use Rattle.scripts.specs.declared.text.ScriptFault.TheVariants.{NoRequest, NoMemory}

-- the line's number, and what a line may say
abbrev pub script_text : ScriptFault → List ℕ
script_text (NoRequest line) = codes "line " ++ (decimal line ++ codes " is no request: begin N, finish N, put back N or look N is wanted")
script_text NoMemory = codes "no memory for the script"
