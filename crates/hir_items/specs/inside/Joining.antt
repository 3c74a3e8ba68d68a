-- What is made of parts, as far as they are there.
use Rattle.std.specs.Prelude.{List, Option, option_map, Result, Ok, Err}

-- what was made, where all after it went well
abbrev pub after : {A B E : Type 0} → A → Result B E → Result A E
after made (Ok done) = Ok made
after made (Err e) = Err e

-- a definition of its notes, of what else it has itself, and of its methods, unless there was no memory for these
abbrev pub definition_of : {W N M D E : Type 0} → (W → N → List M → D) → W → Option N → Result (List M) E → Result (Option D) E
definition_of define notes own (Ok methods) = Ok (option_map (λ n. define notes n methods) own)
definition_of define notes own (Err e) = Err e
