-- The constants of the code are the numbers of the definitions.
use Rattle.std.specs.Prelude.{◌≡◌, refl}
use Rattle.m88_isa.specs.Monitor.{exit_service, monitor_trap, output_register, put_service, service_register}
use Rattle.m88_isa.specs.Vector.{bad_division, data_access, first_user_vector, instruction_access, misaligned, out_of_bounds, overflow, privilege, unimplemented}
use Rattle.m88_isa.specs.declared.monitor.TheConstants as monitor
use Rattle.m88_isa.specs.declared.vector.TheConstants as vector

pub instruction_access_named : vector.INSTRUCTION_ACCESS ≡ instruction_access
instruction_access_named = refl

pub data_access_named : vector.DATA_ACCESS ≡ data_access
data_access_named = refl

pub misaligned_named : vector.MISALIGNED ≡ misaligned
misaligned_named = refl

pub unimplemented_named : vector.UNIMPLEMENTED ≡ unimplemented
unimplemented_named = refl

pub privilege_named : vector.PRIVILEGE ≡ privilege
privilege_named = refl

pub out_of_bounds_named : vector.OUT_OF_BOUNDS ≡ out_of_bounds
out_of_bounds_named = refl

pub bad_division_named : vector.BAD_DIVISION ≡ bad_division
bad_division_named = refl

pub overflow_named : vector.OVERFLOW ≡ overflow
overflow_named = refl

pub first_user_vector_named : vector.FIRST_USER_VECTOR ≡ first_user_vector
first_user_vector_named = refl

pub monitor_trap_named : monitor.MONITOR_TRAP ≡ monitor_trap
monitor_trap_named = refl

pub put_service_named : monitor.PUT_SERVICE ≡ put_service
put_service_named = refl

pub exit_service_named : monitor.EXIT_SERVICE ≡ exit_service
exit_service_named = refl

pub service_register_named : monitor.SERVICE_REGISTER ≡ service_register
service_register_named = refl

pub output_register_named : monitor.OUTPUT_REGISTER ≡ output_register
output_register_named = refl
