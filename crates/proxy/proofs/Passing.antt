-- A request that is let pass.
use Rattle.std.proofs.Common.{ℕ, Ok, Err, Result}
use Rattle.message.specs.declared.fault.Unfit.{Unfit}
use Rattle.text.specs.Bytes.{Text}
use Rattle.request.specs.Found.{Finding, passed, more, fault}
use Rattle.request.specs.declared.reading.Reading.{Reading}
use Rattle.message.specs.declared.fault.Fault.{Fault}
use Rattle.proxy.specs.Steps.{OnFinding, OnPass}
use Rattle.proxy.specs.declared.state.Proxy.{Proxy}

-- a request that has been read fits into its memory
never_pass : {P : Type 0} (c s : ℕ) (p new : Proxy) (u : Unfit) (a : Result ℕ Fault) → OnPass c s p new (Err u) a → P
never_pass c s p new u (Ok n) h = let e = h.0 in cc
never_pass c s p new u (Err f) h = let e = h.0 in cc

pub never_unfit : {P : Type 0} (c : ℕ) (r : Reading) (out after : Text) (p new : Proxy) (u : Unfit) (f : Finding) → OnFinding c r out after p new (Err u) f → P
never_unfit c r out after p new u more h = let e = h.0 in cc
never_unfit c r out after p new u (fault w) h = let e = h.0 in cc
never_unfit c r out after p new u (passed s q) (mid, a, pass, h) = never_pass c s mid new u a h
