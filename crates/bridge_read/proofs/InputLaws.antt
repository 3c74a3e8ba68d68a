-- What reading an input answers: what is spelled, and else the first fault.
use Rattle.std.proofs.Common.{◌≡◌, ℕ, List, [], ◌∷◌, Option, Some, Result, Ok, Err, refl, sym, ap, subst, ◌∙◌, inl, inr}
use Rattle.std.specs.Prelude.{slice_get}
use Rattle.std.specs.List.{flat_map}
use Rattle.serde_json.specs.Data.{Data}
use Rattle.bridge_ast.specs.EnvFaults.{faults_of, IsBad, IsFirst}
use Rattle.bridge_ast.specs.declared.fault.EnvFault.{EnvFault}
use Rattle.bridge_ast.specs.declared.fault.EnvFault.TheVariants.{Bad}
use Rattle.bridge_ast.specs.declared.fault.EnvFaultKind.{EnvFaultKind}
use Rattle.bridge_ast.specs.declared.fault.EnvPlace.{EnvPlace}
use Rattle.bridge_ast.specs.Sound.{AreSound}
use Rattle.bridge_ast.proofs.FittingLemmas.{order_of_sound}
use Rattle.bridge_ast.proofs.SoundLemmas.{clean_from}
use Rattle.bridge_decl.specs.declared.modules.Module.{Module}
use Rattle.bridge_form.specs.declared.fault.Fault.{Fault}
use Rattle.bridge_read.specs.declared.input.Declared.{Declared}
use Rattle.bridge_read.specs.declared.input.Input.{Input}
use Rattle.bridge_read.specs.declared.input.InputFault.{InputFault}
use Rattle.bridge_read.specs.declared.input.InputFault.TheVariants.{NotDeclarations, NoMemory}
use Rattle.bridge_read.specs.inside.Answers.{GivesForm, GivesEnv, IsNoJson}
use Rattle.bridge_read.specs.Inputs.{IsJsonOf, SpellsInput, IsFirstFault, IsToldOf, IsReadAs, Refuses, IsFirstOf, IsToldAs, declared_fault, faults_between, told_in}
use Rattle.bridge_read.specs.forms.Inputs.{declared_of, whole}
use Rattle.bridge_form.proofs.FormLaws.{Begins}
use Rattle.bridge_read.proofs.forms.Inputs.{whole_lawful}

abbrev given : {A : Type 0} → A → Option A
given x = Some x

given_is : {A : Type 0} (x y : A) → given x ≡ given y → x ≡ y
given_is x y e = cc

abbrev good : Declared → Result Declared Fault
good x = Ok x

good_is : (x y : Declared) → good x ≡ good y → x ≡ y
good_is x y e = cc

-- bytes have one value
pub same_value : (bytes : List ℕ) (d e : Data) → IsJsonOf bytes d → IsJsonOf bytes e → d ≡ e
same_value bytes d e one other = given_is d e (sym one.value ∙ other.value)

abbrev declared_by : Input → Declared
declared_by input = declared_of input.env input.validator input.config input.urls

abbrev input_by : Declared → Input
input_by declared = record { env = declared.modules; validator = declared.validator; config = declared.config; urls = declared.urls }

-- what an input is read from is read of any value of the bytes
read_of : (bytes : List ℕ) (d : Data) (input : Input) → IsJsonOf bytes d → SpellsInput bytes input → whole.read d ≡ Ok (declared_by input)
read_of bytes d input json spells =
    subst (λ e. whole.read e ≡ Ok (declared_by input)) (same_value bytes spells.value d spells.json json)
    (whole_lawful.only spells.value (declared_by input) spells.form)

pub spelled_once : (bytes : List ℕ) (one other : Input) → SpellsInput bytes one → SpellsInput bytes other → one ≡ other
spelled_once bytes one other first second =
    let same = good_is (declared_by one) (declared_by other) (sym (read_of bytes first.value one first.json first) ∙ read_of bytes first.value other first.json second) in
    ap input_by same

not_first : (faults : List Fault) (fault : Fault) → faults ≡ [] → slice_get faults 0 ≡ Some fault → ⊥
not_first [] fault e first = absurd cc
not_first (f ∷ faults) fault e first = absurd cc

-- what is spelled has no fault
pub faultless : (bytes : List ℕ) (value : Data) (input : Input) (fault : Fault) → SpellsInput bytes input → IsJsonOf bytes value → ¬ IsFirstOf value fault
faultless bytes value input fault spells json (inl first) = not_first (whole.faults value) fault (whole_lawful.sound value (declared_by input) (read_of bytes value input json spells)) first
faultless bytes value input fault spells json (inr told) =
    let same : told.declared ≡ declared_by input = good_is told.declared (declared_by input) (sym (whole_lawful.only value told.declared told.form) ∙ read_of bytes value input json spells) in
    not_first (faults_between value told.declared) fault (rw (same, clean_from input.env (order_of_sound input.env spells.sound)) refl) told.first

pub is_spelled : (bytes : List ℕ) (d : Data) (declared : Declared) → IsJsonOf bytes d → whole.read d ≡ Ok declared → AreSound declared.modules → SpellsInput bytes (input_by declared)
is_spelled bytes d declared json reads sound = record { value = d; json = json; form = whole_lawful.found d declared reads; sound = sound }

-- the first of faults that begin with one
first_of : (fault : Fault) (faults : List Fault) → Begins fault faults → slice_get faults 0 ≡ Some fault
first_of fault faults begins = rw begins.is refl

pub form_told : (bytes : List ℕ) (d : Data) (told : InputFault) (fault : Fault) → IsJsonOf bytes d → whole.read d ≡ Err fault → IsToldAs told fault → IsFirstFault bytes told
form_told bytes d told fault json reads tells =
    record { value = d; json = json; fault = fault; first = inl (first_of fault (whole.faults d) (whole_lawful.first d fault reads)); tells = tells }

pub between_told : (bytes : List ℕ) (d : Data) (told : InputFault) (declared : Declared) (fault : Fault) → IsJsonOf bytes d → whole.read d ≡ Ok declared → slice_get (faults_between d declared) 0 ≡ Some fault → IsToldAs told fault → IsFirstFault bytes told
between_told bytes d told declared fault json reads first tells =
    record { value = d; json = json; fault = fault; first = inr (record { declared = declared; form = whole_lawful.found d declared reads; first = first }); tells = tells }

-- the first fault of modules, as one of the value that declares them
pub first_between : (d : Data) (what : EnvFaultKind) (at : EnvPlace) (other : Option EnvPlace) (faults : List EnvFault) → slice_get faults 0 ≡ Some (Bad what at other)
    → slice_get (flat_map (told_in d) faults) 0 ≡ Some (declared_fault d what at)
first_between d what at other [] e = absurd cc
first_between d what at other (fault ∷ faults) e = rw (given_is fault (Bad what at other) e) refl

pub env_told : (d : Data) (told : InputFault) (what : EnvFaultKind) (at : EnvPlace) (other : Option EnvPlace) (modules : List Module)
    → IsFirst (Bad what at other) (faults_of modules) → ¬ AreSound modules → IsToldAs told (declared_fault d what at) → GivesEnv (Err told) d modules
env_told d NoMemory what at other modules first broken tells = tt
env_told d (NotDeclarations kind pointer) what at other modules first broken tells =
    (broken, (declared_fault d what at, first_between d what at other (faults_of modules) first, tells))

pub first_told : (d : Data) (told : InputFault) (fault : EnvFault) (what : EnvFaultKind) (at : EnvPlace) (other : Option EnvPlace) (modules : List Module)
    → fault ≡ Bad what at other → IsFirst fault (faults_of modules) → (IsBad fault → ¬ AreSound modules) → IsToldAs told (declared_fault d what at) → GivesEnv (Err told) d modules
first_told d told fault what at other modules is first broken tells =
    env_told d told what at other modules (subst (λ f. IsFirst f (faults_of modules)) is first) (broken (subst IsBad (sym is) tt)) tells

-- ---- what is answered where the value isn't read

no_declared : (d : Data) (declared : Declared) (fault : Fault) → whole.read d ≡ Ok declared → whole.read d ≡ Err fault → ⊥
no_declared d declared fault reads refuses = let e : good declared ≡ Err fault = sym reads ∙ refuses in absurd cc

pub json_refuses : (bytes : List ℕ) (told : InputFault) → IsNoJson bytes told → Refuses bytes told
json_refuses bytes NoMemory gives = tt
json_refuses bytes (NotDeclarations what pointer) gives = λ input spells. gives.none (spells.value, spells.json)

module _ (bytes : List ℕ) (d : Data) (json : IsJsonOf bytes d) where
  pub form_only : (told : InputFault) → GivesForm (Err told) d → (input : Input) → SpellsInput bytes input → IsReadAs (Err told) input
  form_only NoMemory gives input spells = tt
  form_only (NotDeclarations what pointer) gives input spells = no_declared d (declared_by input) gives.0 (read_of bytes d input json spells) gives.1

  pub form_refuses : (told : InputFault) → GivesForm (Err told) d → Refuses bytes told
  form_refuses NoMemory gives = tt
  form_refuses (NotDeclarations what pointer) gives = form_only (NotDeclarations what pointer) gives

  pub form_is_told : (told : InputFault) → GivesForm (Err told) d → IsToldOf bytes told
  form_is_told NoMemory gives = tt
  form_is_told (NotDeclarations what pointer) gives = inr (form_told bytes d (NotDeclarations what pointer) gives.0 json gives.1 gives.2)

  module _ (declared : Declared) (reads : whole.read d ≡ Ok declared) where
    same_declared : (input : Input) → SpellsInput bytes input → declared ≡ declared_by input
    same_declared input spells = good_is declared (declared_by input) (sym reads ∙ read_of bytes d input json spells)

    pub env_only : (told : InputFault) → GivesEnv (Err told) d declared.modules → (input : Input) → SpellsInput bytes input → IsReadAs (Err told) input
    env_only NoMemory gives input spells = tt
    env_only (NotDeclarations what pointer) gives input spells =
        gives.0 (subst AreSound (sym (ap (λ (x : Declared). x.modules) (same_declared input spells))) spells.sound)

    pub env_refuses : (told : InputFault) → GivesEnv (Err told) d declared.modules → Refuses bytes told
    env_refuses NoMemory gives = tt
    env_refuses (NotDeclarations what pointer) gives = env_only (NotDeclarations what pointer) gives

    pub env_is_told : (told : InputFault) → GivesEnv (Err told) d declared.modules → IsToldOf bytes told
    env_is_told NoMemory gives = tt
    env_is_told (NotDeclarations what pointer) gives = inr (between_told bytes d (NotDeclarations what pointer) declared gives.1.0 json reads gives.1.1 gives.1.2)

    pub read_spelled : (env : List Module) → env ≡ declared.modules → AreSound declared.modules
        → SpellsInput bytes (record { env = env; validator = declared.validator; config = declared.config; urls = declared.urls })
    read_spelled env is sound =
        subst (λ modules. SpellsInput bytes (record { env = modules; validator = declared.validator; config = declared.config; urls = declared.urls })) (sym is)
        (is_spelled bytes d declared json reads sound)

    pub read_only : (env : List Module) → env ≡ declared.modules → (input : Input) → SpellsInput bytes input
        → record { env = env; validator = declared.validator; config = declared.config; urls = declared.urls } ≡ input
    read_only env is input spells =
        ap (λ modules. record { env = modules; validator = declared.validator; config = declared.config; urls = declared.urls }) is
        ∙ ap input_by (same_declared input spells)

-- bytes that have a value are not told to have none
pub none_told : (bytes : List ℕ) (d : Data) (told : InputFault) (fault : Fault) → IsJsonOf bytes d → IsNoJson bytes told → IsToldAs told fault
none_told bytes d (NotDeclarations what pointer) fault json no_json = absurd (no_json.none (d, json))
none_told bytes d NoMemory fault json no_json = tt
