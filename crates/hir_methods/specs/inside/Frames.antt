-- A method or a function whose parameters were taken off.
use Rattle.std.specs.Prelude.{List}
use Rattle.hir_definitions.specs.declared.methods.Method.{Method}
use Rattle.hir_definitions.specs.declared.methods.Param.{Param}
use Rattle.hir_methods.specs.declared.whole.Frame.{Frame}

-- with its parameters
abbrev pub whole_in : Frame → List Param → Method
whole_in frame params =
    record {
      docs = frame.heading.docs;
      name = record { 0 = frame.heading.name };
      abi_name = frame.heading.abi_name;
      lifetime_env = frame.lifetime_env;
      param_self = frame.param_self;
      params = params;
      output = frame.output;
      attrs = frame.attrs;
    }
