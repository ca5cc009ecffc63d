mod FewBytes
mod Talking
mod Hearing
mod Calls
mod Conversing
